-- The points of edwards25519 are a commutative group under the sum of RFC 8032.
use Rattle.std.proofs.Common.{◌≡◌, ◌≢◌, ◌<◌, ◌≤◌, ℕ, ◌+◌, ◌*◌, arith, ap, refl, sym, ◌∙◌}
use Rattle.std.proofs.Math.Nat.{mod-eq_of_lt}
use Rattle.std.proofs.lemmas.Nat.{mod_below}
use Rattle.field25519.specs.Field.{field_add, field_mul, field_sub, prime}
use Rattle.curve25519.specs.Points.{curve_d}
use Rattle.curve_laws.proofs.FieldLemmas.{add, opposite, sub}
use Rattle.curve_laws.proofs.DifferenceLemmas.{equal, then}
use Rattle.group_laws.specs.Groups.{HasOpposite, HasSum, IsGroup}
use Rattle.edwards_laws.specs.Points.{Affine, IsPoint, IsPointSum, neutral_point}
use Rattle.edwards_laws.proofs.CurveLemmas.{curve, some}
use Rattle.edwards_laws.proofs.RuleLemmas.{are-under, equation-of, equation-to, has-sum, middle, product-of, product-to}
use Rattle.edwards_laws.proofs.SumLemmas.{AreUnder, IsOn, IsSumOver, neutral-sum, one-sum, opposite-on, opposite-sum, sum-on, turned}
use Rattle.edwards_laws.proofs.AssociativityLemmas.{swap}

-- points with one x and one y are one
point-at : ℕ → ℕ → Affine
point-at x y = record { x = x; y = y }

-- since a pair is its x and y
pub points-equal : (p q : Affine) → (p.x ≡ q.x) × (p.y ≡ q.y) → p ≡ q
unfolding point-at
points-equal p q are = ap (λ x. point-at x p.y) are.0 ∙ ap (λ y. point-at q.x y) are.1

-- ---- points

-- a point of the curve, by congruences
pub to-on : (p : Affine) → IsPoint p → IsOn prime curve_d p.x p.y
unfolding field_add field_mul field_sub
to-on p on =
    record { x_below = on.x_below; y_below = on.y_below; on = equation-of prime curve_d p.x p.y some on.on_curve }

-- and back
pub from-on : (p : Affine) → IsOn prime curve_d p.x p.y → IsPoint p
unfolding field_add field_mul field_sub
from-on p on =
    record { x_below = on.x_below; y_below = on.y_below; on_curve = equation-to prime curve_d p.x p.y some on.on }

-- ---- sums

-- what stands under y and x of p + q
abbrev pub under-y : Affine → Affine → ℕ
under-y p q = sub prime 1 (middle prime curve_d p.x p.y q.x q.y)

-- and x
abbrev pub under-x : Affine → Affine → ℕ
under-x p q = add prime 1 (middle prime curve_d p.x p.y q.x q.y)

-- r is the sum, by congruences
abbrev pub IsOver : Affine → Affine → Affine → Type 0
IsOver p q r = IsSumOver prime curve_d p.x p.y q.x q.y (under-y p q) (under-x p q) r.x r.y

-- that both are so
pub under : (p q : Affine) → AreUnder prime curve_d p.x p.y q.x q.y (under-y p q) (under-x p q)
under p q = are-under prime curve_d p.x p.y q.x q.y some

-- a sum by the equations is one by congruences
pub to-sum : (p q r : Affine) → IsPointSum p q r → IsOver p q r
unfolding field_add field_mul field_sub
to-sum p q r sum =
    record {
      under = under p q;
      x_below = sum.x_below;
      y_below = sum.y_below;
      x = then (product-of prime r.x (under-x p q) p.x q.y q.x p.y sum.x_is)
          (equal prime (p.x * q.y + q.x * p.y) (p.x * q.y + p.y * q.x) (omega arith));
      y = product-of prime r.y (under-y p q) p.y q.y p.x q.x sum.y_is;
    }

-- and back
from-sum : (p q r : Affine) → IsOver p q r → IsPointSum p q r
unfolding field_add field_mul field_sub
from-sum p q r sum =
    record {
      x_below = sum.x_below;
      y_below = sum.y_below;
      x_is = product-to prime r.x (under-x p q) p.x q.y q.x p.y
          (then sum.x (equal prime (p.x * q.y + p.y * q.x) (p.x * q.y + q.x * p.y) (omega arith)));
      y_is = product-to prime r.y (under-y p q) p.y q.y p.x q.x sum.y;
    }

-- ---- the laws

-- any two points have a sum
total : (p q : Affine) → IsPoint p → IsPoint q → HasSum IsPointSum p q
total p q p_on q_on =
    let sum = has-sum prime curve_d p.x p.y q.x q.y (under-y p q) (under-x p q) curve (to-on p p_on) (to-on q q_on) (under p q) in
    record { third = record { x = sum.x3; y = sum.y3 }; is = from-sum p q (record { x = sum.x3; y = sum.y3 }) sum.is }

-- one alone
unique : (p q r s : Affine) → IsPoint p → IsPoint q → IsPointSum p q r → IsPointSum p q s → r ≡ s
unique p q r s p_on q_on first second =
    points-equal r s
    (one-sum prime curve_d p.x p.y q.x q.y (under-y p q) (under-x p q) r.x r.y (under-y p q) (under-x p q) s.x s.y curve
    (to-on p p_on) (to-on q q_on) (to-sum p q r first) (to-sum p q s second))

-- which is a point
pub closed : (p q r : Affine) → IsPoint p → IsPoint q → IsPointSum p q r → IsPoint r
closed p q r p_on q_on sum =
    from-on r
    (sum-on prime curve_d p.x p.y q.x q.y (under-y p q) (under-x p q) r.x r.y curve (to-on p p_on) (to-on q q_on) (to-sum p q r sum))

-- p + q, turned, is the sum of q and p
turned-over : (p q r : Affine) → IsPointSum p q r
    → IsSumOver prime curve_d q.x q.y p.x p.y (under-y p q) (under-x p q) r.x r.y
turned-over p q r sum = turned prime curve_d p.x p.y q.x q.y (under-y p q) (under-x p q) r.x r.y (to-sum p q r sum)

-- q + p is p + q
commutes : (p q r : Affine) → IsPoint p → IsPoint q → IsPointSum p q r → IsPointSum q p r
commutes p q r p_on q_on sum =
    let other = total q p q_on p_on in
    let same = points-equal other.third r
    (one-sum prime curve_d q.x q.y p.x p.y (under-y q p) (under-x q p) other.third.x other.third.y (under-y p q) (under-x p q) r.x r.y curve
    (to-on q q_on) (to-on p p_on) (to-sum q p other.third other.is) (turned-over p q r sum)) in
    rw same at other.is

-- (p + q) + r is p + (q + r)
associates : (p q r s t left right : Affine) → IsPoint p → IsPoint q → IsPoint r
    → IsPointSum p q s → IsPointSum s r left → IsPointSum q r t → IsPointSum p t right → left ≡ right
associates p q r s t left right p_on q_on r_on first left_is second right_is =
    points-equal left right
    (swap prime curve_d p.x p.y q.x q.y r.x r.y (under-y p q) (under-x p q) s.x s.y (under-y q r) (under-x q r) t.x t.y
    (under-y s r) (under-x s r) left.x left.y (under-y p t) (under-x p t) right.x right.y curve
    (to-on p p_on) (to-on q q_on) (to-on r r_on)
    (to-sum p q s first) (turned-over q r t second) (to-sum s r left left_is) (turned-over p t right right_is))

-- (0, 1) is a point
pub neutral-is-point : IsPoint neutral_point
unfolding field_add field_mul field_sub
neutral-is-point = record { x_below = omega arith; y_below = omega arith; on_curve = refl }

-- and adds nothing
neutral-adds-nothing : (p : Affine) → IsPoint p → IsPointSum neutral_point p p
neutral-adds-nothing p on =
    from-sum neutral_point p p
    (neutral-sum prime curve_d p.x p.y (under-y neutral_point p) (under-x neutral_point p) some (to-on p on) (under neutral_point p))

-- (- x, y)
abbrev negated-point : Affine → Affine
negated-point p = record { x = sub prime 0 p.x; y = p.y }

-- below p is at most p
within : (x : ℕ) → x < prime → x ≤ prime
within x below = omega arith

-- p + (- p) is (0, 1)
opposites : (p : Affine) → IsPoint p → HasOpposite IsPoint IsPointSum neutral_point p
opposites p on =
    let q = negated-point p in
    let w_is = opposite prime p.x some (within p.x on.x_below) in
    record {
      opposite = q;
      is_element = from-on q (opposite-on prime curve_d p.x p.y q.x some (to-on p on) (mod_below _ prime some) w_is);
      is = from-sum p q neutral_point
          (opposite-sum prime curve_d p.x p.y q.x (under-y p q) (under-x p q) (omega arith) (to-on p on) w_is (under p q));
    }

-- by coordinates
pub opposite-gives : (p : Affine) → IsPoint p → IsPointSum p (record { x = sub prime 0 p.x; y = p.y }) neutral_point
unfolding opposites
opposite-gives p on = let other = opposites p on in other.is

-- all of this
pub group : IsGroup IsPoint IsPointSum neutral_point
group =
    record {
      total = total;
      unique = unique;
      closed = closed;
      commutes = commutes;
      associates = associates;
      neutral_is_element = neutral-is-point;
      neutral_adds_nothing = neutral-adds-nothing;
      opposites = opposites;
    }

-- ---- d

-- d is below p
d-below : curve_d < prime
d-below = omega arith

-- and no square
pub d-is-no-square : (r : ℕ) → field_mul r r ≢ curve_d
unfolding field_mul
d-is-no-square r is = curve.no_square r (record { is = is ∙ sym (mod-eq_of_lt d-below) })
