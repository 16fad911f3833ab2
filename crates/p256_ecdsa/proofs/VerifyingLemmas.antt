-- The cases of FIPS 186-5, section 6.4.2.
use Rattle.std.proofs.Common.{◌≡◌, ◌%◌, ℕ, List, take, drop, refl, ap, ◌∙◌, Bool, true, false, nat_eq, Some, None, Option}
use Rattle.sha2.specs.Sha256.{sha256}
use Rattle.wide_words.specs.Numbers.{big_endian, bits_to_int}
use Rattle.p256_order.specs.Scalars.{order, scalar_inv, scalar_mul}
use Rattle.p256_curve.specs.declared.point.Point.{Point}
use Rattle.p256_curve.specs.Points.{base, point_add}
use Rattle.p256_curve.specs.Multiples.{multiply}
use Rattle.p256_curve.specs.Encoding.{affine_x, decoded}
use Rattle.p256_ecdsa.specs.Keys.{in_range}
use Rattle.p256_ecdsa.specs.Verification.{accepts, meets, recovered}
use Rattle.curve_laws.specs.P256.{HasPoint}
use Rattle.p256_ecdsa.proofs.KeyLemmas.{in_range-same}
use Rattle.p256_ecdsa.proofs.SumLemmas.{IsMultipleOf, IsMultipleOfBase, product-within, sum-x}

pub recovered-made : (q left right out : Point) (e r s s_scalar w e_scalar u1 r_scalar u2 n1 n2 : ℕ) → HasPoint q
    → in_range r ≡ true → in_range s ≡ true
    → s_scalar ≡ s % order → w ≡ scalar_inv s_scalar → e_scalar ≡ e % order → u1 ≡ scalar_mul e_scalar w → r_scalar ≡ r % order
    → u2 ≡ scalar_mul r_scalar w → n1 ≡ u1 → IsMultipleOfBase n1 left → n2 ≡ u2 → IsMultipleOf q n2 right
    → out ≡ point_add left right → affine_x out ≡ affine_x (recovered q e r s)
unfolding recovered
recovered-made q left right out e r s s_scalar w e_scalar u1 r_scalar u2 n1 n2 q_is r_within s_within e1 e2 e3 e4 e5 e6 e7 left_is e9 right_is e11 =
    let r_same : r % order ≡ r = in_range-same r r_within in
    let s_same : s % order ≡ s = in_range-same s s_within in
    let first : n1 ≡ scalar_mul (e % order) (scalar_inv s) = cc in
    let second : n2 ≡ scalar_mul r (scalar_inv s) = cc in
    ap affine_x e11
    ∙ sum-x q left right n1 n2 q_is (rw first (product-within (e % order) (scalar_inv s)))
    (rw second (product-within r (scalar_inv s))) left_is right_is
    ∙ ap (λ k. affine_x (point_add (multiply k base) (multiply n2 q))) first
    ∙ ap (λ k. affine_x (point_add (multiply (scalar_mul (e % order) (scalar_inv s)) base) (multiply k q))) second

pub meets-some : (q point : Point) (e r s x x_scalar n : ℕ) (out : Bool)
    → affine_x point ≡ affine_x (recovered q e r s) → x ≡ affine_x point
    → x_scalar ≡ x % order → n ≡ x_scalar → out ≡ nat_eq n r → out ≡ meets (Some q) e r s
unfolding meets
meets-some q point e r s x x_scalar n out point_is x_is scalar_is n_is is = cc

meets-none : (e r s : ℕ) → false ≡ meets None e r s
unfolding meets
meets-none e r s = refl

pub accepts-r : (public message signature : List ℕ) (r : ℕ) → r ≡ big_endian (take 32 signature) → in_range r ≡ false
    → false ≡ accepts public message signature
unfolding accepts
accepts-r public message signature r r_is out =
    let test : in_range (big_endian (take 32 signature)) ≡ false = rw (← r_is) out in
    rw test refl

pub accepts-s : (public message signature : List ℕ) (r s : ℕ) → r ≡ big_endian (take 32 signature) → in_range r ≡ true
    → s ≡ big_endian (take 32 (drop 32 signature)) → in_range s ≡ false → false ≡ accepts public message signature
unfolding accepts
accepts-s public message signature r s r_is within s_is out =
    let first : in_range (big_endian (take 32 signature)) ≡ true = rw (← r_is) within in
    let second : in_range (big_endian (take 32 (drop 32 signature))) ≡ false = rw (← s_is) out in
    rw (first, second) refl

accepts-meets : (public message signature : List ℕ) (r s : ℕ) → r ≡ big_endian (take 32 signature) → in_range r ≡ true
    → s ≡ big_endian (take 32 (drop 32 signature)) → in_range s ≡ true
    → meets (decoded public) (bits_to_int 256 (sha256 message)) r s ≡ accepts public message signature
unfolding accepts
accepts-meets public message signature r s r_is r_within s_is s_within =
    let first : in_range (big_endian (take 32 signature)) ≡ true = rw (← r_is) r_within in
    let second : in_range (big_endian (take 32 (drop 32 signature))) ≡ true = rw (← s_is) s_within in
    rw (first, second) (rw (r_is, s_is) refl)

pub accepts-key : (public message signature hash : List ℕ) (r s e : ℕ) (q : Point) (point : Option Point) (out : Bool)
    → r ≡ big_endian (take 32 signature) → in_range r ≡ true
    → s ≡ big_endian (take 32 (drop 32 signature)) → in_range s ≡ true
    → point ≡ decoded public → point ≡ Some q → hash ≡ sha256 message → e ≡ bits_to_int 256 hash → out ≡ meets (Some q) e r s
    → out ≡ accepts public message signature
accepts-key public message signature hash r s e q point out r_is r_within s_is s_within point_is some hash_is e_is is =
    let whole = accepts-meets public message signature r s r_is r_within s_is s_within in
    cc

pub accepts-no_key : (public message signature : List ℕ) (r s : ℕ) (point : Option Point)
    → r ≡ big_endian (take 32 signature) → in_range r ≡ true
    → s ≡ big_endian (take 32 (drop 32 signature)) → in_range s ≡ true
    → point ≡ decoded public → point ≡ None → false ≡ accepts public message signature
accepts-no_key public message signature r s point r_is r_within s_is s_within point_is none =
    let whole = accepts-meets public message signature r s r_is r_within s_is s_within in
    let refused = meets-none (bits_to_int 256 (sha256 message)) r s in
    cc
