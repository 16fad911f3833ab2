-- What is decoded stands for a point of edwards25519.
use Rattle.std.proofs.Common.{◌≡◌, ◌<◌, ◌-◌, ◌⊎◌, inl, inr, ℕ, ◌+◌, ◌*◌, ◌/◌, ◌%◌, ◌^◌, ◌&&◌, arith, ap, refl, sym, ◌∙◌, Bool, true, false, Option, Some, None, nat_eq, nat_lt, if◌then◌else◌}
use Rattle.std.proofs.lemmas.Bool.{ltb-true}
use Rattle.std.proofs.lemmas.Nat.{mod_below}
use Rattle.field25519.specs.Field.{field_add, field_mul, field_sub, prime}
use Rattle.curve25519.specs.declared.point.Point.{Point}
use Rattle.curve25519.specs.Encoding.{decoded, point_of, recovered_x, root_candidate, root_of_minus_one, signed_root, square_root, with_sign}
use Rattle.curve25519.specs.Points.{curve_d, negated, point_at}
use Rattle.curve_laws.proofs.DifferenceLemmas.{IsCongruent, equal}
use Rattle.curve_laws.proofs.FieldLemmas.{opposite, sub}
use Rattle.edwards_laws.specs.Points.{Affine, HasPoint, IsPoint, IsPointSum, StandsFor, neutral_point}
use Rattle.edwards_laws.proofs.CurveLemmas.{some}
use Rattle.edwards_laws.proofs.GroupLemmas.{from-on, opposite-gives, to-on}
use Rattle.edwards_laws.proofs.SumLemmas.{opposite-on}
use Rattle.edwards_laws.proofs.RootLemmas.{less-one, negated-product, on-curve, one-more, opposite-square, root-of-first, second-root, squares, within}

-- ---- step 3 and step 4

-- what a choice of two gives
by-root : (x y r w u o : ℕ) (a b : Bool) → nat_eq w u ≡ a → nat_eq w o ≡ b
    → (if a then Some x else (if b then Some y else None)) ≡ Some r
    → ((w ≡ u) × (x ≡ r)) ⊎ ((w ≡ o) × (y ≡ r))
by-root x y r w u o true b a_is b_is is = inl (grind arith, grind arith)
by-root x y r w u o false true a_is b_is is = inr (grind arith, grind arith)
by-root x y r w u o false false a_is b_is is = absurd (grind arith)

by-sign : (r o x : ℕ) (a b : Bool) → (if a then None else (if b then Some r else Some o)) ≡ Some x
    → (r ≡ x) ⊎ (o ≡ x)
by-sign r o x true b is = absurd (grind arith)
by-sign r o x false true is = inl (grind arith)
by-sign r o x false false is = inr (grind arith)

-- a product is below p
pub candidate-below : (u v : ℕ) → root_candidate u v < prime
unfolding root_candidate field_mul
candidate-below u v = mod_below _ prime some

-- the root that was found is one, and below p
pub root-is : (u v r : ℕ) → u < prime → square_root u v ≡ Some r → IsCongruent prime (v * (r * r)) u × (r < prime)
unfolding square_root field_mul field_sub
root-is u v r below is =
    go (by-root c ((c * root_of_minus_one) % prime) r w u ((0 + (prime - u)) % prime) (nat_eq w u) (nat_eq w ((0 + (prime - u)) % prime)) refl refl is)
  where
    c : ℕ
    c = root_candidate u v

    w : ℕ
    w = (v * ((c * c) % prime)) % prime

    go : ((w ≡ u) × (c ≡ r)) ⊎ ((w ≡ (0 + (prime - u)) % prime) × ((c * root_of_minus_one) % prime ≡ r))
        → IsCongruent prime (v * (r * r)) u × (r < prime)
    go (inl first) =
        (rw first.1 at (root-of-first prime u v c w below refl first.0), rw first.1 at (candidate-below u v))
    go (inr second) =
        (second-root u v c r w below refl second.0 second.1, rw second.1 at (mod_below (c * root_of_minus_one) prime some))

-- step 4 keeps the square
sign-is : (sign r x : ℕ) → r < prime → with_sign sign r ≡ Some x → IsCongruent prime (x * x) (r * r) × (x < prime)
unfolding with_sign field_sub
sign-is sign r x below is = go (by-sign r ((0 + (prime - r)) % prime) x (nat_eq r 0 && nat_eq sign 1) (nat_eq (r % 2) sign) is)
  where
    go : (r ≡ x) ⊎ ((0 + (prime - r)) % prime ≡ x) → IsCongruent prime (x * x) (r * r) × (x < prime)
    go (inl same) = (equal prime (x * x) (r * r) (ap (λ k. k * k) (sym same)), rw same at below)
    go (inr turned) = (
      rw turned at (opposite-square prime r ((0 + (prime - r)) % prime) some (opposite prime r some (within r below))),
      rw turned at (mod_below (0 + (prime - r)) prime some),
    )

-- so x is a root of u / v
x-is : (sign u v x : ℕ) (root : Option ℕ) → u < prime → square_root u v ≡ root → signed_root sign root ≡ Some x
    → IsCongruent prime (v * (x * x)) u × (x < prime)
unfolding signed_root
x-is sign u v x None below root_is is = absurd (grind arith)
x-is sign u v x (Some r) below found is =
    let first = root-is u v r below found in
    let second = sign-is sign r x first.1 is in
    (squares u v x r second.0 first.0, second.1)

-- ---- points

-- y y - 1 is below p
pub difference-below : (k : ℕ) → field_sub k 1 < prime
unfolding field_sub
difference-below k = mod_below _ prime some

-- x, y with that root is a point
point-is : (x y : ℕ) → x < prime → y < prime
    → IsCongruent prime (field_add (field_mul curve_d (field_mul y y)) 1 * (x * x)) (field_sub (field_mul y y) 1)
    → IsPoint (record { x = x; y = y })
unfolding field_add field_mul field_sub
point-is x y x_below y_below is =
    from-on (record { x = x; y = y })
    (record {
      x_below = x_below;
      y_below = y_below;
      on = on-curve prime curve_d x y _ _ (less-one prime (y * y) some) (one-more prime curve_d (y * y) some) is;
    })

-- k 1 is k
times-one : (k : ℕ) → k < prime → k ≡ (k * 1) % prime
times-one k below = omega arith

-- (x, y, 1, x y) of a point
pub point-stands : (x y : ℕ) → IsPoint (record { x = x; y = y }) → StandsFor (point_at x y) (record { x = x; y = y })
unfolding point_at field_mul
point-stands x y on = record {
  is_point = on;
  x_is = times-one x on.x_below;
  y_is = times-one y on.y_below;
  t_is = times-one ((x * y) % prime) (mod_below (x * y) prime some);
  z_some = omega arith;
  z_below = omega arith;
}

-- - P of what stands for a point
pub negated-stands : (p : Point) (z : Affine) → StandsFor p z → HasPoint (negated p)
unfolding negated field_mul field_sub
negated-stands p z is =
    let w = sub prime 0 z.x in
    let x_fits = within z.x is.is_point.x_below in
    let k_fits = within ((z.x * z.y) % prime) (mod_below (z.x * z.y) prime some) in
    record {
      p = record { x = w; y = z.y };
      is = record {
        is_point = from-on (record { x = w; y = z.y })
            (opposite-on prime curve_d z.x z.y w some (to-on z is.is_point) (mod_below _ prime some) (opposite prime z.x some x_fits));
        x_is = ap (λ k. sub prime 0 k) is.x_is
            ∙ negated-product prime z.x p.z some x_fits (within ((z.x * p.z) % prime) (mod_below (z.x * p.z) prime some));
        y_is = is.y_is;
        t_is = ap (λ k. sub prime 0 k) is.t_is
            ∙ negated-product prime ((z.x * z.y) % prime) p.z some k_fits (within _ (mod_below ((z.x * z.y) % prime * p.z) prime some))
            ∙ ap (λ k. (k * p.z) % prime) (negated-product prime z.x z.y some x_fits k_fits);
        z_some = is.z_some;
        z_below = is.z_below;
      };
    }

-- which with P gives (0, 1)
pub negated-sum : (p : Point) (z : Affine) → (is : StandsFor p z)
    → IsPointSum z (negated-stands p z is).p neutral_point
unfolding negated-stands
negated-sum p z is = opposite-gives z is.is_point

-- ---- what is decoded

-- a point of an x that was found
of-x : (n y : ℕ) (x : Option ℕ) (p : Point) → y < prime → recovered_x n y ≡ x → point_of y x ≡ Some p → HasPoint p
unfolding recovered_x point_of
of-x n y None p below x_is is = absurd (grind arith)
of-x n y (Some x) p below found is =
    let u = field_sub (field_mul y y) 1 in
    let v = field_add (field_mul curve_d (field_mul y y)) 1 in
    let root = x-is n u v x (square_root u v) (difference-below (field_mul y y)) refl found in
    let stands = point-stands x y (point-is x y root.1 below root.0) in
    let same : point_at x y ≡ p = grind arith in
    record { p = record { x = x; y = y }; is = rw same at stands }

-- the test of y
by-test : (n y : ℕ) (p : Point) (test : Bool) → nat_lt y prime ≡ test
    → (if test then point_of y (recovered_x n y) else None) ≡ Some p → HasPoint p
by-test n y p true test_is is = of-x n y (recovered_x n y) p (ltb-true y prime test_is) refl is
by-test n y p false test_is is = absurd (grind arith)

pub decoded-stands : (n : ℕ) (p : Point) → decoded n ≡ Some p → HasPoint p
unfolding decoded
decoded-stands n p is = by-test (n / 2 ^ 255) (n % 2 ^ 255) p (nat_lt (n % 2 ^ 255) prime) refl is
