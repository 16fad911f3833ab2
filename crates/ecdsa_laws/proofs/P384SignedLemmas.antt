-- What is signed over P-384 verifies: [u1]G + [u2]([d]G) is [k]G, since u1 + u2 d is k modulo n.
use Rattle.std.proofs.Common.{◌≡◌, ◌<◌, ℕ, Some, true, ◌+◌, ◌*◌, ◌%◌, ◌^◌, ◌-◌, arith, ap, refl, sym, ◌∙◌}
use Rattle.std.proofs.Math.Nat.{mod-eq_of_lt, mod-mod}
use Rattle.std.proofs.lemmas.Bool.{eq-eqb}
use Rattle.std.proofs.lemmas.Nat.{mod_below, mul-mod_second}
use Rattle.p384_order.specs.Scalars.{order, scalar_add, scalar_inv, scalar_mul, scalar_pow}
use Rattle.p384_curve.specs.declared.point.Point.{Point}
use Rattle.p384_curve.specs.Encoding.{affine_x}
use Rattle.p384_curve.specs.Multiples.{multiply}
use Rattle.p384_curve.specs.Points.{base, base_x, base_y, point_add}
use Rattle.p384_ecdsa.specs.Keys.{in_range}
use Rattle.p384_ecdsa.specs.Signatures.{is_usable, signed_with}
use Rattle.p384_ecdsa.specs.Verification.{meets, recovered}
use Rattle.prime_laws.proofs.FermatLemmas.{power-inverts}
use Rattle.prime_laws.proofs.P384OrderChain.{prime-of-384-bits}
use Rattle.curve_laws.proofs.DifferenceLemmas.{IsCongruent, equal, products, sums, then}
use Rattle.curve_laws.proofs.P384SameLemmas.{same-x}
use Rattle.curve_laws.specs.P384.{Affine, At, Infinity, IsGroupSum, StandsFor}
use Rattle.group_laws.specs.Groups.{IsMultiple}
use Rattle.group_laws.proofs.LoopLemmas.{stands-for-sum}
use Rattle.group_laws.proofs.MultipleLemmas.{multiple-modulo, multiple-of-multiple}
use Rattle.group_laws.proofs.P384GroupLemmas.{group}
use Rattle.group_laws.proofs.P384MultipleLemmas.{Stands, base-stands, formula, multiply-stands, order-leaves-infinity, stands-for-point}
use Rattle.ecdsa_laws.proofs.NumberLemmas.{in-range, nonce-is, range-says, usable-says}

-- ---- numbers modulo n

some : 0 < order
some = omega arith

more : 1 < order
more = omega arith

-- a remainder is a number of at most so many bits
within : (u : ℕ) → u < order → u < 2 ^ 384
within u below = omega arith

remainder-below : (u : ℕ) → u % order < order
remainder-below u = mod_below u order some

remainder : (u : ℕ) → IsCongruent order (u % order) u
remainder u = record { is = mod-mod u order }

-- n is prime, and so `scalar_inv` is the inverse
pub inverse-is : (x : ℕ) → 0 < x → x < order → IsCongruent order (x * scalar_inv x) 1
unfolding scalar_inv scalar_pow
inverse-is x x_some below =
    record {
      is = mul-mod_second x (x ^ (order - 2)) order ∙ power-inverts order x prime-of-384-bits x_some below
          ∙ sym (mod-eq_of_lt more);
    }

-- s is (e + r d) / k
s-is : (d e k : ℕ)
    → IsCongruent order (signed_with d e k).s (scalar_inv k * (e % order + (signed_with d e k).r * d))
unfolding signed_with scalar_mul scalar_add
s-is d e k =
    let r = (signed_with d e k).r in
    let i = scalar_inv k in
    let inner : IsCongruent order ((e % order + (r * d) % order) % order) (e % order + r * d) =
    then (remainder (e % order + (r * d) % order)) (sums (equal order (e % order) (e % order) refl) (remainder (r * d))) in
    then (remainder (i * ((e % order + (r * d) % order) % order))) (products (equal order i i refl) inner)

-- r and s are remainders
r-below : (d e k : ℕ) → (signed_with d e k).r < order
unfolding signed_with
r-below d e k = remainder-below _

s-below : (d e k : ℕ) → (signed_with d e k).s < order
unfolding signed_with scalar_mul
s-below d e k = remainder-below _

-- neither of which is 0, where they are usable
both-some : (d e k : ℕ) → is_usable (signed_with d e k) ≡ true
    → (0 < (signed_with d e k).r) × (0 < (signed_with d e k).s)
unfolding is_usable
both-some d e k usable = usable-says (signed_with d e k).r (signed_with d e k).s usable

-- ---- ranges

pub r-in-range : (d e k : ℕ) → is_usable (signed_with d e k) ≡ true → in_range (signed_with d e k).r ≡ true
unfolding in_range
r-in-range d e k usable = in-range (signed_with d e k).r order (both-some d e k usable).0 (r-below d e k)

pub s-in-range : (d e k : ℕ) → is_usable (signed_with d e k) ≡ true → in_range (signed_with d e k).s ≡ true
unfolding in_range
s-in-range d e k usable = in-range (signed_with d e k).s order (both-some d e k usable).1 (s-below d e k)

-- ---- one point, and its x

-- [u1]G + [u2]Q is [k]G, where Q is [d]G and u1 + u2 d is k modulo n
sum-of-both : (u1 u2 d k : ℕ) (q : Point) (z : Affine) → u1 < order → u2 < order → k < order
    → IsMultiple IsGroupSum Infinity (At base_x base_y) d z → StandsFor q z
    → IsCongruent order (u1 + u2 * d) k
    → affine_x (point_add (multiply u1 base) (multiply u2 q)) ≡ affine_x (multiply k base)
sum-of-both u1 u2 d k q z u1_below u2_below k_below d_is q_is k_is =
    let g = At base_x base_y in
    let on = stands-for-point base g base-stands in
    let first = multiply-stands u1 base g (within u1 u1_below) base-stands in
    let second = multiply-stands u2 q z (within u2 u2_below) q_is in
    let second_is : Stands g (multiply u2 q) (u2 * d) =
    record { x = second.x; stands = second.stands; is = multiple-of-multiple group g on d z d_is u2 second.x second.is } in
    let both = stands-for-sum formula g on u1 (u2 * d) (multiply u1 base) (multiply u2 q) first second_is in
    let direct = multiply-stands k base g (within k k_below) base-stands in
    let same = multiple-modulo group g on order (u1 + u2 * d) k both.x direct.x order-leaves-infinity k_is.is both.is direct.is in
    same-x (point_add (multiply u1 base) (multiply u2 q)) (multiply k base) direct.x (rw same at both.stands) direct.stands

-- ---- the check

recovered-x : (d e k : ℕ) (q : Point) (z : Affine)
    → IsMultiple IsGroupSum Infinity (At base_x base_y) d z → StandsFor q z
    → (0 < k) × (k < order) → is_usable (signed_with d e k) ≡ true
    → affine_x (recovered q e (signed_with d e k).r (signed_with d e k).s) ≡ affine_x (multiply k base)
unfolding recovered scalar_mul
recovered-x d e k q z d_is q_is range usable =
    let r = (signed_with d e k).r in
    let s = (signed_with d e k).s in
    let w = scalar_inv s in
    let k_is = nonce-is order k (scalar_inv k) s (e % order) r d w (scalar_mul (e % order) w) (scalar_mul r w) some
    (inverse-is k range.0 range.1) (s-is d e k) (inverse-is s (both-some d e k usable).1 (s-below d e k))
    (remainder ((e % order) * w)) (remainder (r * w)) in
    sum-of-both (scalar_mul (e % order) w) (scalar_mul r w) d k q z (remainder-below _) (remainder-below _) range.1 d_is q_is k_is

-- r is x of [k]G modulo n
r-is : (d e k : ℕ) → affine_x (multiply k base) % order ≡ (signed_with d e k).r
unfolding signed_with
r-is d e k = refl

pub signed-meets : (d e k : ℕ) (q : Point) (z : Affine)
    → IsMultiple IsGroupSum Infinity (At base_x base_y) d z → StandsFor q z
    → in_range k ≡ true → is_usable (signed_with d e k) ≡ true
    → meets (Some q) e (signed_with d e k).r (signed_with d e k).s ≡ true
unfolding meets in_range
signed-meets d e k q z d_is q_is range usable =
    let x_is = recovered-x d e k q z d_is q_is (range-says k order range) usable in
    eq-eqb (affine_x (recovered q e (signed_with d e k).r (signed_with d e k).s) % order) (signed_with d e k).r
    (ap (λ x. x % order) x_is ∙ r-is d e k)
