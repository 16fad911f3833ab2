-- What `point_add` and `multiply` make of points of edwards25519, and [L]B.
use Rattle.std.proofs.Common.{◌≡◌, ◌<◌, ℕ, zero, suc, ◌+◌, ◌*◌, ◌/◌, ◌%◌, ◌^◌, arith, ap, refl, sym, ◌∙◌}
use Rattle.std.proofs.Math.Nat.{mod-eq_of_lt}
use Rattle.std.proofs.lemmas.Nat.{mod_below}
use Rattle.field25519.specs.Field.{field_add, field_mul, field_sub, prime}
use Rattle.scalar25519.specs.Scalars.{order}
use Rattle.curve25519.specs.declared.point.Point.{Point}
use Rattle.curve25519.specs.Multiples.{choose, multiply, multiply_from}
use Rattle.curve25519.specs.Points.{base, curve_d, neutral, point_add, point_at}
use Rattle.curve_laws.proofs.DifferenceLemmas.{IsCongruent, equal, then}
use Rattle.curve_laws.proofs.UnitLemmas.{IsUnit, unit-some}
use Rattle.group_laws.specs.Groups.{IsMultiple, no_times, once_more}
use Rattle.group_laws.proofs.FieldLemmas.{settle}
use Rattle.group_laws.proofs.LoopLemmas.{AddsPoints, StandsForMultiple, loop-makes}
use Rattle.group_laws.proofs.LoopLemmas as loops
use Rattle.group_laws.proofs.MultipleLemmas.{multiple-unique}
use Rattle.edwards_laws.specs.Points.{Affine, IsPoint, IsPointSum, StandsFor, base_point, neutral_point}
use Rattle.edwards_laws.proofs.CurveLemmas.{curve, some}
use Rattle.edwards_laws.proofs.FormulaLemmas.{steps, sums, z-unit}
use Rattle.edwards_laws.proofs.GroupLemmas.{closed, group, neutral-is-point, points-equal, to-on, to-sum, under, under-x, under-y}
use Rattle.edwards_laws.proofs.SumLemmas.{divided}

-- ---- the formula

-- what isn't 0 has an inverse
z-inverted : (p : Point) (x : Affine) → StandsFor p x → IsUnit prime p.z
z-inverted p x p_is = curve.field.inverts p.z p_is.z_some p_is.z_below

-- 1 is no multiple of p
above-one : 1 < prime
above-one = omega arith

-- the formula adds points
pub formula-adds : (p q : Point) (x y z : Affine) → StandsFor p x → StandsFor q y → IsPointSum x y z
    → StandsFor (point_add p q) z
unfolding point_add field_add field_mul field_sub
formula-adds p q x y z p_is q_is sum =
    let over = to-sum x y z sum in
    let are = steps prime curve_d x.x x.y p.z y.x y.y q.z (under-y x y) (under-x x y) p.x p.y p.t q.x q.y q.t some
    p_is.x_is p_is.y_is p_is.t_is q_is.x_is q_is.y_is q_is.t_is (under x y) in
    let made = sums prime x.x x.y p.z y.x y.y q.z (under-y x y) (under-x x y) _ _ _ _ z.x z.y some are over.x over.y in
    let unit = z-unit prime curve_d x.x x.y p.z y.x y.y q.z (under-y x y) (under-x x y) _ _ _ _ curve
    (to-on x p_is.is_point) (to-on y q_is.is_point) (under x y) (z-inverted p x p_is) (z-inverted q y q_is) are in
    record {
      is_point = closed x y z p_is.is_point q_is.is_point sum;
      x_is = made.x;
      y_is = made.y;
      t_is = made.t;
      z_some = unit-some prime (point_add p q).z above-one unit;
      z_below = mod_below _ prime some;
    }

-- which the loops are told
pub formula : AddsPoints IsPoint IsPointSum neutral_point StandsFor point_add
formula = record { group = group; adds = formula-adds }

-- ---- constants

-- (0, 1, 1, 0) stands for (0, 1)
pub neutral-stands : StandsFor neutral neutral_point
unfolding neutral field_mul
neutral-stands =
    record { is_point = neutral-is-point; x_is = refl; y_is = refl; t_is = refl; z_some = omega arith; z_below = omega arith }

-- the base point's coordinates stand for it
pub base-stands : StandsFor base base_point
unfolding base point_at field_add field_mul field_sub
base-stands =
    record {
      is_point = record { x_below = omega arith; y_below = omega arith; on_curve = refl };
      x_is = refl;
      y_is = refl;
      t_is = refl;
      z_some = omega arith;
      z_below = omega arith;
    }

-- ---- the loop

-- p stands for [k]x
abbrev pub Stands : Affine → Point → ℕ → Type 0
Stands x p k = StandsForMultiple IsPointSum neutral_point StandsFor x p k

-- the choice of `multiply_from`
choose-same : (bit : ℕ) (p q : Point) → loops.choose bit p q ≡ choose bit p q
choose-same zero p q = refl
choose-same (suc bit) p q = refl

-- `multiply_from` is the loop over the formula
loop-same : (bits s : ℕ) (p sum : Point)
    → loops.multiply_from point_add bits s p sum ≡ multiply_from bits s p sum
unfolding multiply_from
loop-same zero s p sum = refl
loop-same (suc bits) s p sum =
    loop-same bits (s / 2) (point_add p p) (loops.choose (s % 2) sum (point_add sum p))
    ∙ ap (λ t. multiply_from bits (s / 2) (point_add p p) t) (choose-same (s % 2) sum (point_add sum p))

-- [1]P is P
pub once : (x : Affine) → IsPoint x → IsMultiple IsPointSum neutral_point x 1 x
once x on = once_more 0 neutral_point x no_times (group.neutral_adds_nothing x on)

-- and 0 + 1 k is k
once-from-none : (k : ℕ) → 0 + 1 * k ≡ k
once-from-none k = omega arith

-- from P and (0, 1) the loop makes [k]P,
multiply_from-stands : (bits k : ℕ) (p : Point) (x : Affine) → k < 2 ^ bits → StandsFor p x
    → Stands x (multiply_from bits k p neutral) k
multiply_from-stands bits k p x below p_is =
    rw (once-from-none k) at
    (rw (loop-same bits k p neutral) at
    (loop-makes formula x p_is.is_point bits k 1 0 p neutral below
    (record { x = x; stands = p_is; is = once x p_is.is_point })
    (record { x = neutral_point; stands = neutral-stands; is = no_times })))

-- and so does `multiply`
pub multiply-stands : (k : ℕ) (p : Point) (x : Affine) → k < 2 ^ 256 → StandsFor p x → Stands x (multiply k p) k
unfolding multiply
multiply-stands k p x below p_is = multiply_from-stands 256 k p x below p_is

-- which is the only [k]P
pub multiply-makes : (k : ℕ) (p : Point) (x z : Affine) → k < 2 ^ 256 → StandsFor p x
    → IsMultiple IsPointSum neutral_point x k z → StandsFor (multiply k p) z
multiply-makes k p x z below p_is z_is =
    let made = multiply-stands k p x below p_is in
    rw (multiple-unique group x p_is.is_point k made.x z made.is z_is) at made.stands

-- ---- the order of the base point

-- coordinates with X = 0 and Y = Z stand for (0, 1) alone
only-neutral : (p : Point) (z : Affine) → StandsFor p z → p.x ≡ 0 → p.y ≡ p.z → z ≡ neutral_point
unfolding field_mul
only-neutral p z p_is x_none y_one =
    let unit = z-inverted p z p_is in
    let i_is : IsCongruent prime (unit.inverse * p.z) 1 = then (equal prime (unit.inverse * p.z) (p.z * unit.inverse) (omega arith)) unit.is in
    points-equal z neutral_point (
      settle prime z.x 0 p_is.is_point.x_below (omega arith)
          (divided prime p.z z.x 0 0 unit.inverse some i_is (record { is = sym p_is.x_is ∙ x_none }) (equal prime (0 * p.z) 0 (omega arith))),
      settle prime z.y 1 p_is.is_point.y_below above-one
          (divided prime p.z z.y 1 p.z unit.inverse some i_is (record { is = sym p_is.y_is ∙ y_one ∙ sym (mod-eq_of_lt p_is.z_below) }) (equal prime (1 * p.z) p.z (omega arith))),
    )

-- computed, by the 256 turns of the loop
x-of-order : (multiply order base).x ≡ 0
unfolding multiply multiply_from point_add field_add field_mul field_sub base neutral point_at
x-of-order = refl

-- and Y is Z
y-of-order : (multiply order base).y ≡ (multiply order base).z
unfolding multiply multiply_from point_add field_add field_mul field_sub base neutral point_at
y-of-order = refl

-- [L]B is (0, 1)
pub order-leaves-neutral : IsMultiple IsPointSum neutral_point base_point order neutral_point
order-leaves-neutral =
    let made = multiply-stands order base base_point (omega arith) base-stands in
    rw (only-neutral (multiply order base) made.x made.stands x-of-order y-of-order) at made.is
