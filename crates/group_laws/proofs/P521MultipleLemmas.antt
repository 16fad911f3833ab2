-- What `multiply` makes of points of P-521, and [n]G.
use Rattle.std.proofs.Common.{◌≡◌, ◌<◌, ℕ, zero, suc, ◌+◌, ◌*◌, ◌/◌, ◌%◌, ◌^◌, arith, ap, refl, ◌∙◌}
use Rattle.p521_field.specs.Field.{field_add, field_mul, field_sub}
use Rattle.p521_order.specs.Scalars.{order}
use Rattle.p521_curve.specs.declared.point.Point.{Point}
use Rattle.p521_curve.specs.Multiples.{choose, multiply, multiply_from}
use Rattle.p521_curve.specs.Points.{base, base_x, base_y, neutral, point_add, point_at}
use Rattle.curve_laws.proofs.P521GroupLemmas.{group-sum}
use Rattle.curve_laws.specs.P521.{Affine, At, Infinity, IsGroupSum, IsPoint, StandsFor, finite_is, for_finite, for_infinity, infinity_is, infinity_with, of_infinities}
use Rattle.group_laws.specs.Groups.{IsMultiple, no_times, once_more}
use Rattle.group_laws.proofs.FieldLemmas.{no-zero}
use Rattle.group_laws.proofs.LoopLemmas.{AddsPoints, StandsForMultiple, loop-makes}
use Rattle.group_laws.proofs.LoopLemmas as loops
use Rattle.group_laws.proofs.MultipleLemmas.{multiple-unique}
use Rattle.group_laws.proofs.P521GroupLemmas.{group}

-- the complete formula adds points
pub formula : AddsPoints IsPoint IsGroupSum Infinity StandsFor point_add
formula = record { group = group; adds = group-sum }

-- p stands for [k]x
abbrev pub Stands : Affine → Point → ℕ → Type 0
Stands x p k = StandsForMultiple IsGroupSum Infinity StandsFor x p k

-- what coordinates stand for is a point
pub stands-for-point : (p : Point) (x : Affine) → StandsFor p x → IsPoint x
stands-for-point p _ (for_infinity _ _) = infinity_is
stands-for-point p _ (for_finite x y on _ _) = finite_is x y on

-- (0 : 1 : 0) stands for O
pub neutral-stands : StandsFor neutral Infinity
unfolding neutral
neutral-stands = for_infinity (record { x_is = refl; z_is = refl }) (record { some = omega arith; below = omega arith })

-- and (x : y : 1) for the base point
pub base-stands : StandsFor base (At base_x base_y)
unfolding base point_at field_add field_mul field_sub
base-stands =
    for_finite base_x base_y
    (record { x_below = omega arith; y_below = omega arith; on_curve = refl })
    (record { x_is = refl; y_is = refl })
    (record { some = omega arith; below = omega arith })

-- ---- the loop

-- the choice of `multiply_from`
choose-same : (bit : ℕ) (p q : Point) → loops.choose bit p q ≡ choose bit p q
choose-same zero p q = refl
choose-same (suc bit) p q = refl

-- `multiply_from` is the loop over the complete formula
loop-same : (bits s : ℕ) (p sum : Point)
    → loops.multiply_from point_add bits s p sum ≡ multiply_from bits s p sum
unfolding multiply_from
loop-same zero s p sum = refl
loop-same (suc bits) s p sum =
    loop-same bits (s / 2) (point_add p p) (loops.choose (s % 2) sum (point_add sum p))
    ∙ ap (λ t. multiply_from bits (s / 2) (point_add p p) t) (choose-same (s % 2) sum (point_add sum p))

-- [1]P is P
pub once : (x : Affine) → IsPoint x → IsMultiple IsGroupSum Infinity x 1 x
once _ infinity_is = once_more 0 Infinity Infinity no_times of_infinities
once _ (finite_is x y on) = once_more 0 Infinity (At x y) no_times (infinity_with x y)

-- and 0 + 1 k is k
once-from-none : (k : ℕ) → 0 + 1 * k ≡ k
once-from-none k = omega arith

-- from P and O the loop makes [k]P,
multiply_from-stands : (bits k : ℕ) (p : Point) (x : Affine) → k < 2 ^ bits → StandsFor p x
    → Stands x (multiply_from bits k p neutral) k
multiply_from-stands bits k p x below p_is =
    let on = stands-for-point p x p_is in
    rw (once-from-none k) at
    (rw (loop-same bits k p neutral) at
    (loop-makes formula x on bits k 1 0 p neutral below
    (record { x = x; stands = p_is; is = once x on })
    (record { x = Infinity; stands = neutral-stands; is = no_times })))

-- and so does `multiply`
pub multiply-stands : (k : ℕ) (p : Point) (x : Affine) → k < 2 ^ 521 → StandsFor p x
    → Stands x (multiply k p) k
unfolding multiply
multiply-stands k p x below p_is = multiply_from-stands 521 k p x below p_is

-- which is the only [k]P
pub multiply-makes : (k : ℕ) (p : Point) (x z : Affine) → k < 2 ^ 521 → StandsFor p x
    → IsMultiple IsGroupSum Infinity x k z → StandsFor (multiply k p) z
multiply-makes k p x z below p_is z_is =
    let made = multiply-stands k p x below p_is in
    rw (multiple-unique group x (stands-for-point p x p_is) k made.x z made.is z_is) at made.stands

-- ---- the order of the base point

-- coordinates with Z = 0 stand for O alone
only-infinity : (p : Point) (z : Affine) → StandsFor p z → p.z ≡ 0 → z ≡ Infinity
only-infinity p _ (for_infinity _ _) none = refl
only-infinity p _ (for_finite x y _ _ p_some) none = absurd (no-zero p.z none p_some.some)

-- computed, by the 521 turns of the loop
z-of-order : (multiply order base).z ≡ 0
unfolding multiply multiply_from point_add field_add field_mul field_sub base neutral point_at
z-of-order = refl

-- [n]G is O
pub order-leaves-infinity : IsMultiple IsGroupSum Infinity (At base_x base_y) order Infinity
order-leaves-infinity =
    let made = multiply-stands order base (At base_x base_y) (omega arith) base-stands in
    rw (only-infinity (multiply order base) made.x made.stands z-of-order) at made.is
