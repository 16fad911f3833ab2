-- Numbers in range, and public keys.
use Rattle.std.proofs.Common.{◌≡◌, ◌<◌, ◌*◌, ◌%◌, ◌^◌, arith, ℕ, List, Bool, true, false, refl, ◌∙◌, nat_eq, nat_lt, if◌then◌else◌}
use Rattle.std.proofs.lemmas.Bool.{both_ways, ltb-true}
use Rattle.std.proofs.Math.Nat.{mod-eq_of_lt}
use mir.Val.{bool_byte}
use Rattle.p256_order.specs.Scalars.{order}
use Rattle.p256_curve.specs.declared.point.Point.{Point}
use Rattle.p256_curve.specs.Points.{base, base_x, base_y}
use Rattle.p256_curve.specs.Multiples.{multiply}
use Rattle.p256_curve.specs.Encoding.{encoded}
use Rattle.curve_laws.specs.P256.{At, Infinity, IsGroupSum}
use Rattle.group_laws.specs.Groups.{HasMultiple}
use Rattle.group_laws.proofs.MultipleLemmas.{has-multiple}
use Rattle.group_laws.proofs.P256GroupLemmas.{group}
use Rattle.group_laws.proofs.P256MultipleLemmas.{base-stands, stands-for-point}
use Rattle.p256_ecdsa.specs.Keys.{in_range, public_key}

-- two flags are 1 where both comparisons hold
pub both-flags : (a b : Bool) → nat_eq (bool_byte a * bool_byte b) 1 ≡ (if a then b else false)
both-flags true true = refl
both-flags true false = refl
both-flags false true = refl
both-flags false false = refl

pub in_range-made : (k nought n : ℕ) (a b : Bool) → nought ≡ 0 → n ≡ order → a ≡ nat_lt nought k → b ≡ nat_lt k n
    → (if a then b else false) ≡ in_range k
unfolding in_range
in_range-made k nought n a b nought_is n_is a_is b_is = rw (a_is, b_is, nought_is, n_is) refl

-- what is in range is below n
pub in_range-below : (k : ℕ) → in_range k ≡ true → k < order
unfolding in_range
in_range-below k is = go (nat_lt 0 k) is
  where
    go : (some : Bool) → (if some then nat_lt k order else false) ≡ true → k < order
    go true below = ltb-true k order below
    go false never = absurd (both_ways false refl never)

pub in_range-same : (k : ℕ) → in_range k ≡ true → k % order ≡ k
in_range-same k is = mod-eq_of_lt (in_range-below k is)

-- and has at most so many bits
pub in_range-within : (k : ℕ) → in_range k ≡ true → k < 2 ^ 256
in_range-within k is = let below = in_range-below k is in omega arith

pub public_key-made : (d : ℕ) (point : Point) (made : List ℕ) → encoded point ≡ encoded (multiply d base)
    → made ≡ encoded point → made ≡ public_key d
unfolding public_key
public_key-made d point made point_is made_is = cc

-- the base point's multiple
pub has-base-multiple : (d : ℕ) → HasMultiple IsGroupSum Infinity (At base_x base_y) d
has-base-multiple d = has-multiple group (At base_x base_y) (stands-for-point base (At base_x base_y) base-stands) d

pub public_key-is : (d : ℕ) → encoded (multiply d base) ≡ public_key d
unfolding public_key
public_key-is d = refl
