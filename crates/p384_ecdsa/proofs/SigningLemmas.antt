-- The turns of RFC 6979, section 3.2, step h, and the signature.
use Rattle.std.proofs.Common.{◌≡◌, ◌<◌, ◌≤◌, ◌-◌, ℕ, suc, ◌+◌, ◌%◌, arith, ap, sym, refl, ◌∙◌, List, [], ◌∷◌, ◌++◌, Bool, true, false, not, nat_eq, if◌then◌else◌, Some, None, Option}
use Rattle.wide_words.specs.Numbers.{bits_to_int, octets}
use Rattle.p384_order.specs.Scalars.{order, scalar_add, scalar_inv, scalar_mul}
use Rattle.p384_curve.specs.declared.point.Point.{Point}
use Rattle.p384_curve.specs.Points.{base}
use Rattle.p384_curve.specs.Multiples.{multiply}
use Rattle.p384_curve.specs.Encoding.{affine_x}
use Rattle.p384_ecdsa.specs.declared.nonce.State.{State}
use Rattle.p384_ecdsa.specs.declared.sign.Pair.{Pair}
use Rattle.p384_ecdsa.specs.Keys.{in_range}
use Rattle.p384_ecdsa.specs.Nonces.{mac, seeded}
use Rattle.p384_ecdsa.specs.Signatures.{first_usable, is_usable, joined, signature, signed_from, signed_with}
use Rattle.p384_ecdsa.proofs.KeyLemmas.{in_range-same}

abbrev pair_of : ℕ → ℕ → Pair
pair_of r s = record { r = r; s = s }

-- r and s by a nonce
pub signed_with-made : (d e hash k x n r k_scalar inverse product sum s : ℕ) (point : Point) → in_range k ≡ true → e ≡ hash % order
    → affine_x point ≡ affine_x (multiply k base) → x ≡ affine_x point → r ≡ x % order → k_scalar ≡ k % order → inverse ≡ scalar_inv k_scalar
    → product ≡ scalar_mul r d → sum ≡ scalar_add e product → s ≡ scalar_mul inverse sum → pair_of r s ≡ signed_with d hash k
unfolding signed_with
signed_with-made d e hash k x n r k_scalar inverse product sum s point within e_is point_is x_is r_is k_is inverse_is product_is sum_is s_is =
    let same : k % order ≡ k = in_range-same k within in
    cc

pub is_usable-r : (pair : Pair) (nought : ℕ) → nought ≡ 0 → nat_eq pair.r nought ≡ true → false ≡ is_usable pair
unfolding is_usable
is_usable-r pair nought nought_is test = let first : nat_eq pair.r 0 ≡ true = rw nought_is at test in rw first refl

choose-not : (b : Bool) → not b ≡ (if b then false else true)
choose-not true = refl
choose-not false = refl

pub is_usable-s : (pair : Pair) (nought : ℕ) → nought ≡ 0 → nat_eq pair.r nought ≡ false → not (nat_eq pair.s nought) ≡ is_usable pair
unfolding is_usable
is_usable-s pair nought nought_is test =
    let first : nat_eq pair.r 0 ≡ false = rw nought_is at test in
    rw (first, nought_is) (choose-not (nat_eq pair.s 0))

abbrev later : ℕ → ℕ → ℕ → List ℕ → List ℕ → Option Pair
later turns d e key t = signed_from turns d e (mac key (t ++ 0 ∷ [])) (mac (mac key (t ++ 0 ∷ [])) t)

signed_from-suc : (turns d e : ℕ) (key value : List ℕ) → signed_from (suc turns) d e key value
    ≡ (if in_range (bits_to_int 384 (mac key value))
    then (if is_usable (signed_with d e (bits_to_int 384 (mac key value)))
    then Some (signed_with d e (bits_to_int 384 (mac key value)))
    else later turns d e key (mac key value))
    else later turns d e key (mac key value))
unfolding signed_from
signed_from-suc turns d e key value = refl

pub signed_from-end : (i d e : ℕ) (key value : List ℕ) (whole : Option Pair) → 64 ≤ i → signed_from (64 - i) d e key value ≡ whole → None ≡ whole
unfolding signed_from
signed_from-end i d e key value whole last is =
    let none : 64 - i ≡ 0 = omega arith in
    ap (λ n. signed_from n d e key value) (sym none) ∙ is

-- the nonce is in range and gives usable numbers
pub signed_from-found : (i d e k : ℕ) (key value t : List ℕ) (pair : Pair) (whole : Option Pair) → i < 64 → t ≡ mac key value
    → k ≡ bits_to_int 384 t → in_range k ≡ true → pair ≡ signed_with d e k → is_usable pair ≡ true
    → signed_from (64 - i) d e key value ≡ whole → Some pair ≡ whole
signed_from-found i d e k key value t pair whole turn t_is k_is within pair_is usable is =
    let one_more : 64 - i ≡ suc (64 - (i + 1)) = omega arith in
    let nonce : k ≡ bits_to_int 384 (mac key value) = k_is ∙ ap (bits_to_int 384) t_is in
    let made : pair ≡ signed_with d e (bits_to_int 384 (mac key value)) = pair_is ∙ ap (signed_with d e) nonce in
    let first : in_range (bits_to_int 384 (mac key value)) ≡ true = rw (← nonce) within in
    let second : is_usable (signed_with d e (bits_to_int 384 (mac key value))) ≡ true = rw (← made) usable in
    ap (λ p. Some p) made
    ∙ sym (signed_from-suc (64 - (i + 1)) d e key value ∙ rw (first, second) refl)
    ∙ ap (λ n. signed_from n d e key value) (sym one_more)
    ∙ is

-- the nonce is out of range
pub signed_from-out : (i d e k : ℕ) (key value t text next after : List ℕ) (whole : Option Pair) → i < 64 → t ≡ mac key value
    → k ≡ bits_to_int 384 t → in_range k ≡ false → text ≡ t ++ 0 ∷ [] → next ≡ mac key text → after ≡ mac next t
    → signed_from (64 - i) d e key value ≡ whole → signed_from (64 - (i + 1)) d e next after ≡ whole
signed_from-out i d e k key value t text next after whole turn t_is k_is out text_is next_is after_is is =
    let one_more : 64 - i ≡ suc (64 - (i + 1)) = omega arith in
    let nonce : k ≡ bits_to_int 384 (mac key value) = k_is ∙ ap (bits_to_int 384) t_is in
    let first : in_range (bits_to_int 384 (mac key value)) ≡ false = rw (← nonce) out in
    let step : signed_from (suc (64 - (i + 1))) d e key value ≡ later (64 - (i + 1)) d e key (mac key value) =
    signed_from-suc (64 - (i + 1)) d e key value ∙ rw first refl in
    cc

-- the nonce is in range, and r or s is 0
pub signed_from-unusable : (i d e k : ℕ) (key value t text next after : List ℕ) (pair : Pair) (whole : Option Pair) → i < 64 → t ≡ mac key value
    → k ≡ bits_to_int 384 t → in_range k ≡ true → pair ≡ signed_with d e k → is_usable pair ≡ false
    → text ≡ t ++ 0 ∷ [] → next ≡ mac key text → after ≡ mac next t
    → signed_from (64 - i) d e key value ≡ whole → signed_from (64 - (i + 1)) d e next after ≡ whole
signed_from-unusable i d e k key value t text next after pair whole turn t_is k_is within pair_is unusable text_is next_is after_is is =
    let one_more : 64 - i ≡ suc (64 - (i + 1)) = omega arith in
    let nonce : k ≡ bits_to_int 384 (mac key value) = k_is ∙ ap (bits_to_int 384) t_is in
    let made : pair ≡ signed_with d e (bits_to_int 384 (mac key value)) = pair_is ∙ ap (signed_with d e) nonce in
    let first : in_range (bits_to_int 384 (mac key value)) ≡ true = rw (← nonce) within in
    let second : is_usable (signed_with d e (bits_to_int 384 (mac key value))) ≡ false = rw (← made) unusable in
    let step : signed_from (suc (64 - (i + 1))) d e key value ≡ later (64 - (i + 1)) d e key (mac key value) =
    signed_from-suc (64 - (i + 1)) d e key value ∙ rw (first, second) refl in
    cc

-- before the first turn
pub first_usable-start : (d : ℕ) (hash : List ℕ) (state : State) → state ≡ seeded d hash
    → signed_from 64 d (bits_to_int 384 hash) state.key state.value ≡ first_usable d hash
unfolding first_usable
first_usable-start d hash state is = cc

pub signature-some : (d : ℕ) (hash bytes : List ℕ) (pair : Pair) (found : Option Pair) → found ≡ first_usable d hash → found ≡ Some pair
    → joined (Some pair) ≡ Some bytes → signature d hash ≡ Some bytes
unfolding signature
signature-some d hash bytes pair found found_is is bytes_are = ap joined (sym found_is ∙ is) ∙ bytes_are

pub signature-none : (d : ℕ) (hash : List ℕ) (found : Option Pair) → found ≡ first_usable d hash → found ≡ None → signature d hash ≡ None
unfolding signature joined
signature-none d hash found found_is is = ap joined (sym found_is ∙ is)

pub joined-made : (pair : Pair) (r s : ℕ) (first second bytes : List ℕ) → r ≡ pair.r → first ≡ octets 48 r → s ≡ pair.s
    → second ≡ octets 48 s → bytes ≡ first ++ second → joined (Some pair) ≡ Some bytes
unfolding joined
joined-made pair r s first second bytes e1 e2 e3 e4 e5 = cc
