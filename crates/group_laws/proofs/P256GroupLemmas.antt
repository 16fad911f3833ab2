-- The points of P-256 at their places modulo p, where SEC 1's sum leads to sums by lines.
use Rattle.std.proofs.Common.{◌≡◌, ◌<◌, ℕ, ◌+◌, ◌*◌, arith, refl}
use Rattle.p256_field.specs.Field.{field_add, field_mul, field_sub, prime}
use Rattle.p256_curve.specs.Points.{curve_b}
use Rattle.curve_laws.proofs.DifferenceLemmas.{equal, then}
use Rattle.curve_laws.proofs.FieldLemmas.{onto-curve}
use Rattle.curve_laws.proofs.UnitLemmas.{IsUnit, unit-of}
use Rattle.curve_laws.proofs.P256Lemmas.{equation, some}
use Rattle.curve_laws.proofs.P256GroupLemmas.{has-sum}
use Rattle.curve_laws.proofs.P256RootLemmas.{inverse-at, y-some}
use Rattle.curve_laws.specs.P256.{Affine, At, Infinity, IsFinite, IsGroupSum, IsPoint, finite_is, infinity_is, infinity_with, negated, of_chord, of_infinities, of_opposites, of_tangent, with_infinity}
use Rattle.group_laws.specs.Groups.{HasOpposite, HasSum, IsGroup}
use Rattle.group_laws.proofs.RuleLemmas.{opposite-finite, sum-of-chord, sum-of-opposites, sum-of-tangent}
use Rattle.group_laws.proofs.SumLemmas as lines
use Rattle.group_laws.proofs.TransferLemmas.{LeadsToLines, group-of}

-- a point as sums by lines have it
abbrev pub place : Affine → lines.Affine
place Infinity = lines.Infinity
place (At x y) = lines.At x y

-- points at one place are one
apart : (p q : Affine) → place p ≡ place q → p ≡ q
apart Infinity Infinity is = refl
apart Infinity (At x y) is = search
apart (At x y) Infinity is = search
apart (At x y) (At z w) is = cc

-- ---- points

-- the place of a point of the curve is one,
to-finite : (x y : ℕ) → IsFinite x y → lines.IsFinite prime curve_b x y
to-finite x y on = record { x_below = on.x_below; y_below = on.y_below; on_curve = equation x y on.on_curve }

-- and what is at the place of one is one
from-finite : (x y : ℕ) → lines.IsFinite prime curve_b x y → IsFinite x y
unfolding field_add field_mul field_sub
from-finite x y on =
    record {
      x_below = on.x_below;
      y_below = on.y_below;
      on_curve = onto-curve prime curve_b x y some
          (then (equal prime (y * y + 3 * x) (3 * x + y * y) (omega arith))
          (then on.on_curve (equal prime (curve_b + x * x * x) (x * x * x + curve_b) (omega arith))));
    }

-- the same with O,
to-point : (p : Affine) → IsPoint p → lines.IsPoint prime curve_b (place p)
to-point _ infinity_is = lines.infinity_is
to-point _ (finite_is x y on) = lines.finite_is x y (to-finite x y on)

-- and back
from-point : (p : Affine) → lines.IsPoint prime curve_b (place p) → IsPoint p
from-point Infinity is = infinity_is
from-point (At x y) (lines.finite_is _ _ on) = finite_is x y (from-finite x y on)

-- ---- the curve

-- what is not 0 has an inverse
inverted : (x : ℕ) → 0 < x → x < prime → IsUnit prime x
unfolding field_mul
inverted x x_some below =
    let has = inverse-at x (record { some = x_some; below = below }) in unit-of prime x has.inverse (omega arith) has.is

-- p is prime, and no point has y = 0
curve : lines.IsCurve prime curve_b
curve =
    record {
      field = record { more = omega arith; inverts = inverted };
      y_some = λ x y on. y-some x y on.x_below (from-finite x y on).on_curve;
    }

-- ---- sums

-- rules 1 to 5 of SEC 1 lead to sums by lines
to-sum : (p q r : Affine) → IsPoint p → IsPoint q → IsGroupSum p q r
    → lines.IsSum prime curve_b (place p) (place q) (place r)
unfolding field_mul field_sub
to-sum _ _ _ p_on q_on of_infinities = lines.of_infinities
to-sum _ _ _ p_on q_on (with_infinity x y) = lines.with_infinity x y
to-sum _ _ _ p_on q_on (infinity_with x y) = lines.infinity_with x y
to-sum _ _ _ (finite_is _ _ on) q_on (of_opposites x y) = sum-of-opposites prime curve_b x y some (to-finite x y on)
to-sum _ _ _ (finite_is _ _ first) (finite_is _ _ second) (of_chord s x1 y1 x2 y2 differ chord) =
    sum-of-chord prime curve_b s x1 y1 x2 y2 curve (to-finite x1 y1 first) (to-finite x2 y2 second) differ chord
to-sum _ _ _ (finite_is _ _ on) q_on (of_tangent s x y y_some touches) =
    sum-of-tangent prime curve_b s x y curve (to-finite x y on) touches

-- any two points have a sum
total : (p q : Affine) → IsPoint p → IsPoint q → HasSum IsGroupSum p q
total p q p_on q_on = let sum = has-sum p q p_on q_on in record { third = sum.third; is = sum.is }

-- O + P is P
infinity-adds-nothing : (p : Affine) → IsPoint p → IsGroupSum Infinity p p
infinity-adds-nothing _ infinity_is = of_infinities
infinity-adds-nothing _ (finite_is x y on) = infinity_with x y

-- P + (- P) is O, where - P has the opposite of y
opposites : (p : Affine) → IsPoint p → HasOpposite IsPoint IsGroupSum Infinity p
unfolding field_sub
opposites _ infinity_is = record { opposite = Infinity; is_element = infinity_is; is = of_infinities }
opposites _ (finite_is x y on) =
    record {
      opposite = At x (negated y);
      is_element = finite_is x (negated y) (from-finite x (negated y) (opposite-finite prime curve_b x y some (to-finite x y on)));
      is = of_opposites x y;
    }

-- all of this
leads-to-lines : LeadsToLines prime curve_b IsPoint IsGroupSum Infinity place
leads-to-lines =
    record {
      curve = curve;
      apart = apart;
      to_point = to-point;
      from_point = from-point;
      to_sum = to-sum;
      total = total;
      neutral_is_element = infinity_is;
      neutral_adds_nothing = infinity-adds-nothing;
      opposites = opposites;
    }

-- the points of P-256 are a commutative group
pub group : IsGroup IsPoint IsGroupSum Infinity
group = group-of leads-to-lines
