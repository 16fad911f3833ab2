-- The formula's sum of any two points of P-521.
use Rattle.std.proofs.lemmas.Nat.{mod_below}
use Rattle.std.proofs.Common.{◌≡◌, ◌≢◌, ◌⊎◌, ◌<◌, ◌-◌, ℕ, ◌+◌, ◌*◌, ◌%◌, arith, refl, sym, inl, inr, subst}
use Rattle.std.proofs.lemmas.Bool.{cases_eq}
use Rattle.p521_field.specs.Field.{prime, field_add, field_mul, field_sub}
use Rattle.p521_curve.specs.declared.point.Point.{Point}
use Rattle.p521_curve.specs.Points.{curve_b, point_add}
use Rattle.curve_laws.proofs.DifferenceLemmas.{IsCongruent, IsDifference, difference, equal, fits, itself, product, then, told}
use Rattle.curve_laws.proofs.LineLemmas.{chord-slope, third-on-curve}
use Rattle.curve_laws.proofs.CaseLemmas.{x-of-infinity, y-of-infinity, y-of-opposites, z-of-chord, z-of-double, z-of-infinity, z-with-infinity}
use Rattle.curve_laws.proofs.UnitLemmas.{IsUnit, apart, curve-opposite, slope-between, slope-opposite, tangent-at, unit-alike, unit-of, unit-product, unit-some, chord-of, must-be-opposite, tangent-of}
use Rattle.curve_laws.proofs.FieldLemmas.{inverse-of-run, onto-curve, opposite, quotient-at, run-at, settled, slope-of-chord, slope-of-tangent, x-of-third, y-of-third, zero-at}
use Rattle.curve_laws.specs.P521.{Affine, At, HasAffine, Infinity, IsAtInfinity, IsChord, IsFinite, IsGroupSum, IsNonzero, IsTangent, StandsFor, for_finite, for_infinity, infinity_with, negated, of_chord, of_infinities, of_opposites, of_tangent, third_x, third_y, with_infinity, HasGroupSum, IsPoint, finite_is, infinity_is}
use Rattle.curve_laws.proofs.P521RootLemmas.{inverse-at, y-some}
use Rattle.curve_laws.proofs.P521Lemmas.{affine-sum, chord-sum, commutes, equation, fits-three, infinity-sum, opposites-sum, some, sum-is, sum-with-infinity, tangent-sum, within, x-settled, z-settled}

more : 1 < prime
more = omega arith

remainder-below : (n : ℕ) → n % prime < prime
remainder-below n = mod_below n prime some

inverted : (x : ℕ) → IsNonzero x → IsUnit prime x
unfolding field_mul
inverted x nonzero = let has = inverse-at x nonzero in unit-of prime x has.inverse more has.is

y-unit : (x y : ℕ) → IsFinite x y → IsUnit prime y
y-unit x y finite =
    inverted y (record { some = y-some x y finite.x_below finite.on_curve; below = finite.y_below })

-- the third point of a line is a point of the curve
third-finite : (slope x1 y1 x2 y2 : ℕ) → IsFinite x1 y1 → x2 < prime
    → IsCongruent prime (slope * x1 + y2) (slope * x2 + y1)
    → IsCongruent prime (slope * y1 + slope * y2 + 3) (x1 * x1 + x1 * x2 + x2 * x2)
    → IsFinite (third_x slope x1 x2) (third_y slope x1 y1 x2)
unfolding field_add field_mul field_sub
third-finite slope x1 y1 x2 y2 first x2_below line slope_is =
    let x_at = x-of-third prime slope x1 x2 some (within first.x_below) (within x2_below) in
    let y_at = y-of-third prime slope x1 y1 x2 (third_x slope x1 x2) some (fits some _ refl) (within first.y_below) x_at in
    record {
      x_below = remainder-below _;
      y_below = remainder-below _;
      on_curve = onto-curve prime curve_b (third_x slope x1 x2) (third_y slope x1 y1 x2) some
          (third-on-curve prime curve_b x1 y1 x2 y2 slope (third_x slope x1 x2) (third_y slope x1 y1 x2) some x_at y_at (equation x1 y1 first.on_curve) line slope_is);
    }

z-below : (p q : Point) → (point_add p q).z < prime
unfolding point_add field_add
z-below p q = remainder-below _

y-below : (p q : Point) → (point_add p q).y < prime
unfolding point_add field_add
y-below p q = remainder-below _

whole-chord : (p q : Point) (slope x1 y1 x2 y2 : ℕ) → IsFinite x1 y1
    → IsFinite x2 y2 → HasAffine p x1 y1 → HasAffine q x2 y2
    → IsNonzero p.z → IsNonzero q.z → x1 ≢ x2 → IsChord slope x1 y1 x2 y2
    → StandsFor (point_add p q) (At (third_x slope x1 x2) (third_y slope x1 y1 x2))
unfolding field_mul field_sub
whole-chord p q slope x1 y1 x2 y2 first second p_at q_at p_some q_some differ chord =
    let d = field_sub x2 x1 in
    let d_some : IsNonzero d = record { some = apart prime x1 x2 some first.x_below second.x_below differ d refl; below = remainder-below _ } in
    let has = inverse-at d d_some in
    let i = has.inverse in
    let i_is = inverse-of-run prime i x1 x2 some (within first.x_below) has.is in
    let e1 = equation x1 y1 first.on_curve in
    let e2 = equation x2 y2 second.on_curve in
    let line = slope-of-chord prime slope x1 y1 x2 y2 some (within first.x_below) (within first.y_below) chord in
    let slope_is = chord-slope prime curve_b x1 y1 x2 y2 slope i some e1 e2 line i_is in
    let w = negated y2 in
    let w_is = opposite prime y2 some (within second.y_below) in
    let t = field_mul (field_sub w y1) i in
    let t_at = quotient-at prime y1 w i some (within first.y_below) in
    let other = slope-between prime x1 y1 x2 w i t some i_is t_at in
    let other_is = chord-slope prime curve_b x1 y1 x2 w t i some e1 (curve-opposite prime curve_b x2 y2 w some w_is e2) other i_is in
    let apart_at = third-finite t x1 y1 x2 w first second.x_below other other_is in
    let x3_at = x-of-third prime t x1 x2 some (within first.x_below) (within second.x_below) in
    let y3_at = y-of-third prime t x1 y1 x2 (third_x t x1 x2) some (fits some _ refl) (within first.y_below) x3_at in
    let z_is = z-of-chord prime curve_b x1 y1 p.z x2 y2 q.z t d (third_y t x1 y1 x2) (point_add p q).x (point_add p q).y (point_add p q).z some
    (affine-sum p q x1 y1 x2 y2 p_at q_at) e1 e2 (run-at prime x1 x2 some (within first.x_below)) (slope-opposite prime x1 y1 x2 y2 w t some w_is other) y3_at in
    let p_unit = inverted p.z p_some in
    let q_unit = inverted q.z q_some in
    let d_unit = inverted d d_some in
    let y_unit = y-unit (third_x t x1 x2) (third_y t x1 y1 x2) apart_at in
    let unit = unit-product prime _ _
    (unit-product prime _ _ (unit-product prime _ _ p_unit p_unit) (unit-product prime _ _ q_unit q_unit))
    (unit-product prime _ _ (unit-product prime _ _ d_unit (unit-product prime _ _ d_unit d_unit)) y_unit) in
    for_finite (third_x slope x1 x2) (third_y slope x1 y1 x2)
    (third-finite slope x1 y1 x2 y2 first second.x_below line slope_is)
    (chord-sum p q slope x1 y1 x2 y2 first second p_at q_at has chord)
    (record { some = unit-some prime (point_add p q).z more (unit-alike prime _ (point_add p q).z z_is unit); below = z-below p q })

eight-cubes : (x y : ℕ) → IsFinite x y → IsUnit prime (8 * (y * y * y))
eight-cubes x y on =
    let y_is = y-unit x y on in
    unit-product prime 8 (y * y * y) (inverted 8 (record { some = omega arith; below = omega arith }))
    (unit-product prime (y * y) y (unit-product prime y y y_is y_is) y_is)

far-quotient : (x i : ℕ)
    → IsDifference prime ((3 * x * x * i + (prime - (3 * i) % prime)) % prime) (3 * x * x * i) (3 * i)
far-quotient x i =
    let lower : IsDifference prime ((3 * i) % prime) (3 * i) 0 = told some (product refl (itself prime 3) (itself prime i)) (omega arith) in
    told some (difference (fits some (3 * i) refl) refl (itself prime (3 * x * x * i)) lower) (omega arith)

doubled-slope : (x y t : ℕ) → IsCongruent prime (2 * t * y + 3) (3 * x * x)
    → IsCongruent prime (t * y + t * y + 3) (x * x + x * x + x * x)
doubled-slope x y t is =
    then (equal prime (t * y + t * y + 3) (2 * t * y + 3) (omega arith)) (then is (equal prime (3 * x * x) (x * x + x * x + x * x) (omega arith)))

whole-tangent : (p q : Point) (slope x y : ℕ) → IsFinite x y → HasAffine p x y
    → HasAffine q x y
    → IsNonzero p.z → IsNonzero q.z → IsTangent slope x y
    → StandsFor (point_add p q) (At (third_x slope x x) (third_y slope x y x))
unfolding field_mul field_sub
whole-tangent p q slope x y on p_at q_at p_some q_some touches =
    let z_is = z-of-double prime curve_b x y p.z q.z (point_add p q).x (point_add p q).y (point_add p q).z some
    (affine-sum p q x y x y p_at q_at) (equation x y on.on_curve) in
    let p_unit = inverted p.z p_some in
    let q_unit = inverted q.z q_some in
    let unit = unit-product prime _ _
    (unit-product prime _ _ (unit-product prime _ _ p_unit p_unit) (unit-product prime _ _ q_unit q_unit))
    (eight-cubes x y on) in
    for_finite (third_x slope x x) (third_y slope x y x)
    (third-finite slope x y x y on on.x_below (equal prime (slope * x + y) (slope * x + y) refl) (slope-of-tangent prime slope x y some fits-three touches))
    (tangent-sum p q slope x y on p_at q_at touches)
    (record { some = unit-some prime (point_add p q).z more (unit-alike prime _ (point_add p q).z z_is unit); below = z-below p q })

whole-opposites : (p q : Point) (x y : ℕ) → IsFinite x y → HasAffine p x y
    → HasAffine q x (negated y)
    → IsNonzero p.z → IsNonzero q.z → StandsFor (point_add p q) Infinity
unfolding field_mul field_sub
whole-opposites p q x y on p_at q_at p_some q_some =
    let two_unit = inverted 2 (record { some = omega arith; below = omega arith }) in
    let twice = unit-product prime 2 y two_unit (y-unit x y on) in
    let i = twice.inverse in
    let t = (3 * x * x * i + (prime - (3 * i) % prime)) % prime in
    let t_at = far-quotient x i in
    let t_is = tangent-at prime x y i t some twice.is t_at in
    let x3_at = x-of-third prime t x x some (within on.x_below) (within on.x_below) in
    let y3_at = y-of-third prime t x y x (third_x t x x) some (fits some _ refl) (within on.y_below) x3_at in
    let double = third-finite t x y x y on on.x_below (equal prime (t * x + y) (t * x + y) refl) (doubled-slope x y t t_is) in
    let y_is = y-of-opposites prime curve_b x y p.z (negated y) q.z t (third_y t x y x) (point_add p q).x (point_add p q).y (point_add p q).z some
    (affine-sum p q x y x (negated y) p_at q_at) (opposite prime y some (within on.y_below)) (equation x y on.on_curve) t_is
    (told some y3_at (omega arith)) in
    let p_unit = inverted p.z p_some in
    let q_unit = inverted q.z q_some in
    let unit = unit-product prime _ _
    (unit-product prime _ _
    (unit-product prime _ _ (unit-product prime _ _ p_unit p_unit) (unit-product prime _ _ q_unit q_unit))
    (eight-cubes x y on))
    (y-unit (third_x t x x) (third_y t x y x) double) in
    for_infinity (opposites-sum p q x y on p_at q_at)
    (record { some = unit-some prime (point_add p q).y more (unit-alike prime _ (point_add p q).y y_is unit); below = y-below p q })

whole-with-infinity : (p q : Point) (x y : ℕ) → IsFinite x y → HasAffine p x y
    → IsNonzero p.z
    → IsAtInfinity q → IsNonzero q.y → StandsFor (point_add p q) (At x y)
whole-with-infinity p q x y on p_at p_some q_at q_some =
    let z_is = z-with-infinity prime curve_b x y p.z q.y (point_add p q).x (point_add p q).y (point_add p q).z some (infinity-sum p q x y p_at q_at) in
    let p_unit = inverted p.z p_some in
    let q_unit = inverted q.y q_some in
    let unit = unit-product prime _ _
    (unit-product prime _ _ (y-unit x y on) (unit-product prime _ _ p_unit p_unit))
    (unit-product prime _ _ q_unit q_unit) in
    for_finite x y on (sum-with-infinity p q x y p_at q_at)
    (record { some = unit-some prime (point_add p q).z more (unit-alike prime _ (point_add p q).z z_is unit); below = z-below p q })

whole-infinities : (p q : Point) → IsAtInfinity p → IsNonzero p.y → IsAtInfinity q
    → IsNonzero q.y → StandsFor (point_add p q) Infinity
whole-infinities p q p_at p_some q_at q_some =
    let sum = sum-is p q 0 p.y 0 0 q.y 0
    (zero-at prime p.x p_at.x_is) (itself prime p.y) (zero-at prime p.z p_at.z_is)
    (zero-at prime q.x q_at.x_is) (itself prime q.y) (zero-at prime q.z q_at.z_is) in
    let unit = unit-product prime _ _ (inverted p.y p_some) (inverted q.y q_some) in
    for_infinity
    (record {
      x_is = settled prime (point_add p q).x 0 (x-settled p q) (x-of-infinity prime curve_b p.y q.y (point_add p q).x (point_add p q).y (point_add p q).z some sum);
      z_is = settled prime (point_add p q).z 0 (z-settled p q) (z-of-infinity prime curve_b p.y q.y (point_add p q).x (point_add p q).y (point_add p q).z some sum);
    })
    (record {
      some = unit-some prime (point_add p q).y more
          (unit-alike prime _ (point_add p q).y (y-of-infinity prime curve_b p.y q.y (point_add p q).x (point_add p q).y (point_add p q).z some sum) (unit-product prime _ _ unit unit));
      below = y-below p q;
    })

-- all cases
pub group-sum : (p q : Point) (first second third : Affine)
    → StandsFor p first → StandsFor q second
    → IsGroupSum first second third → StandsFor (point_add p q) third
group-sum p q _ _ _ (for_infinity p_at p_some) (for_infinity q_at q_some) of_infinities =
    whole-infinities p q p_at p_some q_at q_some
group-sum p q _ _ _ (for_finite x y on p_at p_some) (for_infinity q_at q_some) (with_infinity _ _) =
    whole-with-infinity p q x y on p_at p_some q_at q_some
group-sum p q _ _ _ (for_infinity p_at p_some) (for_finite x y on q_at q_some) (infinity_with _ _) =
    rw (commutes p q) (whole-with-infinity q p x y on q_at q_some p_at p_some)
group-sum p q _ _ _ (for_finite x y on p_at p_some) (for_finite _ _ _ q_at q_some) (of_opposites _ _) =
    whole-opposites p q x y on p_at q_at p_some q_some
group-sum p q _ _ _ (for_finite x1 y1 first p_at p_some) (for_finite x2 y2 second q_at q_some) (of_chord slope _ _ _ _ differ crosses) =
    whole-chord p q slope x1 y1 x2 y2 first second p_at q_at p_some q_some differ crosses
group-sum p q _ _ _ (for_finite x y on p_at p_some) (for_finite _ _ _ q_at q_some) (of_tangent slope _ _ _ touches) =
    whole-tangent p q slope x y on p_at q_at p_some q_some touches

-- ---- any two points have a sum

differing-sum : (x1 y1 x2 y2 : ℕ) → IsFinite x1 y1 → IsFinite x2 y2 → x1 ≢ x2
    → HasGroupSum (At x1 y1) (At x2 y2)
unfolding field_mul field_sub
differing-sum x1 y1 x2 y2 first second differ =
    let d = field_sub x2 x1 in
    let has = inverse-at d (record { some = apart prime x1 x2 some first.x_below second.x_below differ d refl; below = remainder-below _ }) in
    let i = has.inverse in
    let t = field_mul (field_sub y2 y1) i in
    let chord = chord-of prime x1 y1 x2 y2 i t some (within first.x_below) (within first.y_below)
    (inverse-of-run prime i x1 x2 some (within first.x_below) has.is) (quotient-at prime y1 y2 i some (within first.y_below)) in
    record { third = At (third_x t x1 x2) (third_y t x1 y1 x2); is = of_chord t x1 y1 x2 y2 differ chord }

double-sum : (x y : ℕ) → IsFinite x y → HasGroupSum (At x y) (At x y)
unfolding field_mul field_sub
double-sum x y on =
    let two_unit = inverted 2 (record { some = omega arith; below = omega arith }) in
    let twice = unit-product prime 2 y two_unit (y-unit x y on) in
    let i = twice.inverse in
    let t = (3 * x * x * i + (prime - (3 * i) % prime)) % prime in
    let y_is : 0 < y = y-some x y on.x_below on.on_curve in
    record {
      third = At (third_x t x x) (third_y t x y x);
      is = of_tangent t x y (λ zero. absurd (omega arith)) (tangent-of prime x y i t some fits-three twice.is (far-quotient x i));
    }

negated-sum : (x y1 y2 : ℕ) → y2 ≡ negated y1 → HasGroupSum (At x y1) (At x y2)
negated-sum x y1 y2 is = rw is (record { third = Infinity; is = of_opposites x y1 })

same-x-sum : (x y1 y2 : ℕ) → IsFinite x y1 → IsFinite x y2
    → (y1 ≡ y2) ⊎ (y1 ≢ y2)
    → HasGroupSum (At x y1) (At x y2)
unfolding field_mul field_sub
same-x-sum x y1 y2 first second (inl same) = rw (← same) (double-sum x y1 first)
same-x-sum x y1 y2 first second (inr differ) =
    let d = field_sub y2 y1 in
    let has = inverse-at d (record { some = apart prime y1 y2 some first.y_below second.y_below differ d refl; below = remainder-below _ }) in
    negated-sum x y1 y2
    (must-be-opposite prime curve_b x y1 y2 has.inverse some (within first.y_below) second.y_below
    (equation x y1 first.on_curve) (equation x y2 second.on_curve)
    (inverse-of-run prime has.inverse y1 y2 some (within first.y_below) has.is))

finite-sum : (x1 y1 x2 y2 : ℕ) → IsFinite x1 y1 → IsFinite x2 y2
    → (x1 ≡ x2) ⊎ (x1 ≢ x2)
    → HasGroupSum (At x1 y1) (At x2 y2)
finite-sum x1 y1 x2 y2 first second (inl same) =
    rw (← same) (same-x-sum x1 y1 y2 first (subst (λ x. IsFinite x y2) (sym same) second) (cases_eq y1 y2))
finite-sum x1 y1 x2 y2 first second (inr differ) = differing-sum x1 y1 x2 y2 first second differ

pub has-sum : (first second : Affine) → IsPoint first → IsPoint second
    → HasGroupSum first second
has-sum _ _ infinity_is infinity_is = record { third = Infinity; is = of_infinities }
has-sum _ _ (finite_is x y on) infinity_is = record { third = At x y; is = with_infinity x y }
has-sum _ _ infinity_is (finite_is x y on) = record { third = At x y; is = infinity_with x y }
has-sum _ _ (finite_is x1 y1 first) (finite_is x2 y2 second) =
    finite-sum x1 y1 x2 y2 first second (cases_eq x1 x2)
