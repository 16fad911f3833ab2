-- What is signed over P-521 is accepted, in bytes: what was encoded is decoded, and r and s are read as they were written.
use Rattle.std.proofs.Common.{◌≡◌, ◌≢◌, ◌<◌, ℕ, zero, suc, ◌+◌, ◌*◌, ◌%◌, ◌^◌, List, [], ◌++◌, ◌∷◌, take, drop, slice_index, Bool, true, false, Option, Some, None, nat_eq, nat_lt, if◌then◌else◌, arith, ap, refl, sym, subst, ◌∙◌}
use Rattle.std.proofs.Math.Nat.{mod-eq_of_lt}
use Rattle.std.proofs.lemmas.Bool.{eq-eqb, lt-ltb}
use Rattle.std.proofs.lemmas.Nat.{mul-mod_second}
use Rattle.sha2.specs.Sha512.{sha512}
use Rattle.wide_words.specs.Numbers.{big_endian, bits_to_int, octets}
use Rattle.p521_field.specs.Field.{prime}
use Rattle.p521_order.specs.Scalars.{order, scalar_inv}
use Rattle.p521_curve.specs.declared.point.Point.{Point}
use Rattle.p521_curve.specs.Encoding.{affine_x, affine_y, decoded, encoded, is_on_curve, valid_point}
use Rattle.p521_curve.specs.Multiples.{multiply}
use Rattle.p521_curve.specs.Points.{IsOnCurve, base, base_x, base_y, point_at}
use Rattle.p521_ecdsa.specs.declared.sign.Pair.{Pair}
use Rattle.p521_ecdsa.specs.Keys.{in_range, public_key}
use Rattle.p521_ecdsa.specs.Nonces.{mac}
use Rattle.p521_ecdsa.specs.Signatures.{first_usable, is_usable, joined, signature, signed_from, signed_with}
use Rattle.p521_ecdsa.specs.Verification.{accepts, meets}
use Rattle.curve_laws.proofs.P521RootLemmas.{quotient-x, quotient-y}
use Rattle.curve_laws.proofs.P521SameLemmas.{point-stands}
use Rattle.curve_laws.specs.P521.{Affine, At, Infinity, IsFinite, IsGroupSum, StandsFor, for_finite, for_infinity}
use Rattle.group_laws.specs.Groups.{IsMultiple}
use Rattle.group_laws.proofs.MultipleLemmas.{has-multiple, multiple-modulo, multiple-of-multiple, neutral-alone}
use Rattle.group_laws.proofs.P521GroupLemmas.{group}
use Rattle.group_laws.proofs.P521MultipleLemmas.{base-stands, multiply-stands, once, order-leaves-infinity, stands-for-point}
use Rattle.ecdsa_laws.proofs.ByteLemmas.{first-read, second-read}
use Rattle.ecdsa_laws.proofs.NumberLemmas.{range-says}
use Rattle.ecdsa_laws.proofs.P521SignedLemmas.{inverse-is, r-in-range, s-in-range, signed-meets}

-- ---- the public key

-- G is a point with coordinates
apart : Infinity ≡ At base_x base_y → ⊥
apart same = grind arith

turned : (d i : ℕ) → (i * d) % order ≡ (d * i) % order
turned d i = ap (λ k. k % order) (omega arith)

-- [d]G isn't O where d is from 1 to n - 1, since it has a multiple that is G
never-infinity : (d : ℕ) → 0 < d → d < order
    → IsMultiple IsGroupSum Infinity (At base_x base_y) d Infinity → ⊥
never-infinity d some below is =
    let g = At base_x base_y in
    let on = stands-for-point base g base-stands in
    let i = scalar_inv d in
    let back = has-multiple group Infinity group.neutral_is_element i in
    let whole = multiple-of-multiple group g on d Infinity is i back.q back.is in
    let same = multiple-modulo group g on order (i * d) 1 back.q g order-leaves-infinity
    (turned d i ∙ (inverse-is d some below).is) whole (once g on) in
    apart (sym (neutral-alone group i back.q back.is) ∙ same)

-- a point of the curve passes the tests of its coordinates
curve-passes : (x y : ℕ) → IsOnCurve x y → is_on_curve x y ≡ true
unfolding is_on_curve
curve-passes x y is = eq-eqb _ _ is

valid-is : (x y : ℕ) → IsFinite x y → valid_point x y ≡ Some (point_at x y)
unfolding valid_point
valid-is x y on =
    rw (lt-ltb x prime on.x_below, lt-ltb y prime on.y_below, curve-passes x y on.on_curve) refl

-- below p there are no more than 66 bytes
in-bytes : (x : ℕ) → x < prime → x < 256 ^ 66
in-bytes x below = omega arith

-- what its coordinates are encoded as is decoded
coordinates-decoded : (x y : ℕ) → IsFinite x y
    → decoded (4 ∷ (octets 66 x ++ octets 66 y)) ≡ Some (point_at x y)
unfolding decoded
coordinates-decoded x y on =
    let bytes = octets 66 x ++ octets 66 y in
    ap (λ k. valid_point k (big_endian (take 66 (drop 66 bytes)))) (first-read 66 x y (in-bytes x on.x_below))
    ∙ ap (λ k. valid_point x k) (second-read 66 x y (in-bytes y on.y_below))
    ∙ valid-is x y on

-- what is decoded is [d]G
record IsKeyOf (d : ℕ) (point : Option Point) : Type 0 where
  x : ℕ
  y : ℕ
  finite : IsFinite x y
  multiple : IsMultiple IsGroupSum Infinity (At base_x base_y) d (At x y)
  is : point ≡ Some (point_at x y)

decoded-again : (d : ℕ) (p : Point) (z : Affine) → 0 < d → d < order → StandsFor p z
    → IsMultiple IsGroupSum Infinity (At base_x base_y) d z → IsKeyOf d (decoded (encoded p))
unfolding encoded
decoded-again d p _ some below (for_infinity _ _) multiple = absurd (never-infinity d some below multiple)
decoded-again d p _ some below (for_finite x y on at z_some) multiple =
    let stands = for_finite x y on at z_some in
    record {
      x = x;
      y = y;
      finite = on;
      multiple = multiple;
      is = ap (λ k. decoded (4 ∷ (octets 66 k ++ octets 66 (affine_y p)))) (quotient-x p x y stands)
          ∙ ap (λ k. decoded (4 ∷ (octets 66 x ++ octets 66 k))) (quotient-y p x y stands)
          ∙ coordinates-decoded x y on;
    }

-- below n there are no more than 521 bits
within : (d : ℕ) → d < order → d < 2 ^ 521
within d below = omega arith

key-decoded : (d : ℕ) → (0 < d) × (d < order) → IsKeyOf d (decoded (public_key d))
unfolding public_key
key-decoded d range =
    let made = multiply-stands d base (At base_x base_y) (within d range.1) base-stands in
    decoded-again d (multiply d base) made.x range.0 range.1 made.stands made.is

-- ---- the signature

-- r and s were made with a nonce in range, and are usable
record IsMade (d e : ℕ) (pair : Pair) : Type 0 where
  k : ℕ
  range : in_range k ≡ true
  usable : is_usable (signed_with d e k) ≡ true
  is : pair ≡ signed_with d e k

one-alone : (p q : Pair) → Some p ≡ Some q → q ≡ p
one-alone p q is = grind arith

by-tests : (d e k : ℕ) (later : Option Pair) (pair : Pair) (first second : Bool) → in_range k ≡ first
    → is_usable (signed_with d e k) ≡ second → (later ≡ Some pair → IsMade d e pair)
    → (if first then (if second then Some (signed_with d e k) else later) else later) ≡ Some pair → IsMade d e pair
by-tests d e k later pair true true range usable next is =
    record { k = k; range = range; usable = usable; is = one-alone (signed_with d e k) pair is }
by-tests d e k later pair true false range usable next is = next is
by-tests d e k later pair false second range usable next is = next is

nothing-made : (pair : Pair) → None ≡ Some pair → ⊥
nothing-made pair is = grind arith

is-made : (turns d e : ℕ) (key value : List ℕ) (pair : Pair)
    → signed_from turns d e key value ≡ Some pair → IsMade d e pair
unfolding signed_from
is-made zero d e key value pair is = absurd (nothing-made pair is)
is-made (suc turns) d e key value pair is =
    let front = mac key value in let t = mac key front in
    let k = bits_to_int 521 (front ++ t) in
    let next = mac key (t ++ 0 ∷ []) in
    by-tests d e k (signed_from turns d e next (mac next t)) pair (in_range k) (is_usable (signed_with d e k)) refl refl
    (is-made turns d e next (mac next t) pair) is

-- below n there are no more than 66 bytes
in-octets : (r : ℕ) → (0 < r) × (r < order) → r < 256 ^ 66
in-octets r range = let below = range.1 in omega arith

-- ---- the check, in bytes

pair-accepted : (d k : ℕ) (message : List ℕ) → in_range d ≡ true → in_range k ≡ true
    → is_usable (signed_with d (bits_to_int 521 (sha512 message)) k) ≡ true
    → accepts (public_key d) message (octets 66 (signed_with d (bits_to_int 521 (sha512 message)) k).r ++ octets 66 (signed_with d (bits_to_int 521 (sha512 message)) k).s) ≡ true
unfolding accepts in_range
pair-accepted d k message d_range range usable =
    let e = bits_to_int 521 (sha512 message) in
    let pair = signed_with d e k in
    let key = key-decoded d (range-says d order d_range) in
    let r_range = r-in-range d e k usable in
    let s_range = s-in-range d e k usable in
    let r_is = first-read 66 pair.r pair.s (in-octets pair.r (range-says pair.r order r_range)) in
    let s_is = second-read 66 pair.r pair.s (in-octets pair.s (range-says pair.s order s_range)) in
    rw (r_is, s_is, r_range, s_range, key.is)
    (signed-meets d e k (point_at key.x key.y) (At key.x key.y) key.multiple (point-stands key.x key.y key.finite) range usable)

no-bytes : (bytes : List ℕ) → None ≡ Some bytes → ⊥
no-bytes bytes is = grind arith

bytes-alone : (first second : List ℕ) → Some first ≡ Some second → second ≡ first
bytes-alone first second is = grind arith

bytes-accepted : (d : ℕ) (message bytes : List ℕ) (made : Option Pair) → in_range d ≡ true
    → first_usable d (sha512 message) ≡ made → joined made ≡ Some bytes → accepts (public_key d) message bytes ≡ true
unfolding first_usable joined
bytes-accepted d message bytes None d_range first is = absurd (no-bytes bytes is)
bytes-accepted d message bytes (Some pair) d_range first is =
    let made = is-made 64 d (bits_to_int 521 (sha512 message)) _ _ pair first in
    rw (bytes-alone (octets 66 pair.r ++ octets 66 pair.s) bytes is, made.is)
    (pair-accepted d made.k message d_range made.range made.usable)

pub signature-accepted : (d : ℕ) (message bytes : List ℕ) → in_range d ≡ true
    → signature d (sha512 message) ≡ Some bytes → accepts (public_key d) message bytes ≡ true
unfolding signature
signature-accepted d message bytes range is = bytes-accepted d message bytes _ range refl is
