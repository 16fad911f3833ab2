-- Signing with ECDSA over P-521: FIPS 186-5, section 6.4.1, with the nonces of RFC 6979, section 3.2.
use Rattle.std.specs.Prelude.{ℕ, zero, suc, ◌%◌, List, [], ◌∷◌, ◌++◌, Bool, true, false, nat_eq, if◌then◌else◌, Option, Some, None}
use Rattle.wide_words.specs.Numbers.{bits_to_int, octets}
use Rattle.p521_order.specs.Scalars.{order, scalar_add, scalar_inv, scalar_mul}
use Rattle.p521_curve.specs.Points.{base}
use Rattle.p521_curve.specs.Multiples.{multiply}
use Rattle.p521_curve.specs.Encoding.{affine_x}
use Rattle.p521_ecdsa.specs.declared.nonce.State.{State}
use Rattle.p521_ecdsa.specs.declared.sign.Pair.{Pair}
use Rattle.p521_ecdsa.specs.Keys.{in_range}
use Rattle.p521_ecdsa.specs.Nonces.{mac, seeded}

-- section 6.4.1, steps 4 to 9: r and s of the private key d, the hash's number e and the nonce k
unfoldable pub signed_with : ℕ → ℕ → ℕ → Pair
signed_with d e k =
    let r : ℕ = affine_x (multiply k base) % order in
    record { r = r; s = scalar_mul (scalar_inv k) (scalar_add (e % order) (scalar_mul r d)) }

-- step 10 (ours in this form): neither r nor s is 0
unfoldable pub is_usable : Pair → Bool
is_usable pair = (if nat_eq pair.r 0 then false else (if nat_eq pair.s 0 then false else true))

-- RFC 6979, section 3.2, step h, in at most so many turns: r and s by the first nonce that is in range and gives usable ones
unfoldable pub signed_from : ℕ → ℕ → ℕ → List ℕ → List ℕ → Option Pair
signed_from zero d e key value = None
signed_from (suc turns) d e key value =
    let front : List ℕ = mac key value in
    let t : List ℕ = mac key front in
    let k : ℕ = bits_to_int 521 (front ++ t) in
    let next : List ℕ = mac key (t ++ 0 ∷ []) in
    let later : Option Pair = signed_from turns d e next (mac next t) in
    (if in_range k then (if is_usable (signed_with d e k) then Some (signed_with d e k) else later) else later)

-- r and s in bytes, one after the other
unfoldable pub joined : Option Pair → Option (List ℕ)
joined (Some pair) = Some (octets 66 pair.r ++ octets 66 pair.s)
joined None = None

-- r and s by the first of 64 nonces that serves
unfoldable pub first_usable : ℕ → List ℕ → Option Pair
first_usable d hash =
    let state : State = seeded d hash in
    signed_from 64 d (bits_to_int 521 hash) state.key state.value

-- the signature of the hash under the private key d, if one of 64 nonces serves
unfoldable pub signature : ℕ → List ℕ → Option (List ℕ)
signature d hash = joined (first_usable d hash)
