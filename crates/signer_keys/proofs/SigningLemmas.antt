-- Lemmas on signatures by RSA keys, which are accepted.
use Rattle.std.proofs.Common.{◌≡◌, ◌≤◌, ℕ, Bool, true, false, ◌&&◌, if◌then◌else◌, List, length, Option, Some, None, Result, Ok, Err, IfOk, IfSome, MatchOption, refl, ◌%◌, arith, nat_eq, subst}
use Rattle.std.proofs.lemmas.Bool.{and_parts, eqb-true}
use Rattle.rsa_octets.specs.Octets.{os2ip, significant}
use Rattle.rsa_sign.specs.Keys.{has_key_sizes, signature as rsa_bytes, signed, signed_by, signed_sized}
use Rattle.rsa_verify.proofs.VerifyingLemmas.{size-bounds}
use Rattle.rsa_verify.specs.Verification.{accepts, has_size, opens}

-- a signature that is accepted has as many bytes as the modulus, and no more than 1024
pub accepted-size : (modulus : List ℕ) (e : ℕ) (info bytes : List ℕ)
    → accepts modulus e info bytes ≡ true → (length bytes ≡ length (significant modulus)) × (length bytes ≤ 1024)
unfolding accepts
accepted-size modulus e info bytes is =
    let first = and_parts (has_size (significant modulus))
    (nat_eq (length bytes) (length (significant modulus)) && opens (significant modulus) e info bytes) is in
    let second = and_parts (nat_eq (length bytes) (length (significant modulus))) (opens (significant modulus) e info bytes) first.1 in
    let bounds = size-bounds (significant modulus) first.0 in
    let same = eqb-true (length bytes) (length (significant modulus)) second.0 in
    (same, omega (arith, bounds.1, same))

-- what is given was accepted
by_accepts : (p q accepted : Bool) (s bytes : List ℕ)
    → (if p && (q && accepted) then Some s else None) ≡ Some bytes
    → (accepted ≡ true) × (s ≡ bytes)
by_accepts true true true s bytes is = (refl, cc is)
by_accepts true true false s bytes is = cc is
by_accepts true false accepted s bytes is = cc is
by_accepts false q accepted s bytes is = cc is

signed_by-accepted : (modulus : List ℕ) (e d p q iqmp : ℕ) (info bytes : List ℕ)
    → signed_by modulus e d p q iqmp info ≡ Some bytes → accepts modulus e info bytes ≡ true
unfolding signed_by
signed_by-accepted modulus e d p q iqmp info bytes is =
    let s : List ℕ = rsa_bytes modulus d p q iqmp info in
    let parts = by_accepts (nat_eq (p % 2) 1) (nat_eq (q % 2) 1) (accepts modulus e info s) s bytes is in
    subst (λ (b : List ℕ). accepts modulus e info b ≡ true) parts.1 parts.0

if_some : (test : Bool) (given : Option (List ℕ)) (bytes : List ℕ)
    → (if test then given else None) ≡ Some bytes → given ≡ Some bytes
if_some true given bytes is = is
if_some false given bytes is = cc is

signed_sized-accepted : (modulus : List ℕ) (e : ℕ) (d p q iqmp info bytes : List ℕ)
    → signed_sized modulus e d p q iqmp info ≡ Some bytes → accepts modulus e info bytes ≡ true
unfolding signed_sized
signed_sized-accepted modulus e d p q iqmp info bytes is =
    signed_by-accepted modulus e (os2ip d) (os2ip p) (os2ip q) (os2ip iqmp) info bytes
    (if_some (has_key_sizes modulus d p q iqmp) (signed_by modulus e (os2ip d) (os2ip p) (os2ip q) (os2ip iqmp) info) bytes is)

-- a signature is accepted of the modulus without zeros in front
pub signed-accepted : (modulus : List ℕ) (e : ℕ) (d p q iqmp info bytes : List ℕ)
    → signed modulus e d p q iqmp info ≡ Some bytes → accepts (significant modulus) e info bytes ≡ true
unfolding signed
signed-accepted modulus e d p q iqmp info bytes is =
    signed_sized-accepted (significant modulus) e (significant d) (significant p) (significant q) (significant iqmp) info bytes is

-- a signature has no more than 1024 bytes
pub signed-short : (modulus : List ℕ) (e : ℕ) (d p q iqmp info bytes : List ℕ)
    → signed modulus e d p q iqmp info ≡ Some bytes → length bytes ≤ 1024
signed-short modulus e d p q iqmp info bytes is =
    (accepted-size (significant modulus) e info bytes (signed-accepted modulus e d p q iqmp info bytes is)).1

-- so has one that is given
pub given-short : {V E : Type 0} (items : V → List ℕ) (found : Option (List ℕ)) (r : Result (Option V) E)
    → ((bytes : List ℕ) → found ≡ Some bytes → length bytes ≤ 1024)
    → IfOk r (λ o. MatchOption o (found ≡ None) (λ v. found ≡ Some (items v)))
    → IfOk r (λ o. IfSome o (λ v. length (items v) ≤ 1024))
given-short items found (Ok (Some v)) short is = short (items v) is
given-short items found (Ok None) short is = tt
given-short items found (Err e) short is = is
