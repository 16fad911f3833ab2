-- Lemmas on signatures as SSH carries them: what is written is read.
use Rattle.std.proofs.Common.{if◌then◌else◌, true, false, ◌≡◌, ◌≤◌, ◌<◌, ◌+◌, ◌-◌, ◌^◌, ℕ, Bool, zero, suc, nat_lt, List, [], ◌∷◌, ◌++◌, length, take, drop, replicate, Ok, refl, ap, sym, subst, ◌∙◌, arith, ne_eqb, take-append-drop}
use Rattle.std.proofs.lemmas.List.{length-append, length-drop, length-take-le, take_all}
use Rattle.ecdsa_wire.proofs.ReadLemmas.{signature_is_read}
use Rattle.ecdsa_wire.specs.Grammar.{IsSignature}
use Rattle.ecdsa_wire.specs.Reading.{SignatureNumbers}
use Rattle.ecdsa_wire.specs.declared.names.Curve.{Curve}
use Rattle.key_wire.specs.Numbers.{IsMagnitude, signed}
use Rattle.rsa_octets.specs.Octets.{significant}
use Rattle.signer_keys.proofs.NumberLemmas.{filled-short, length-significant}
use Rattle.signer_keys.specs.Ecdsa.{ecdsa_judged, ecdsa_text}
use Rattle.signer_keys.specs.Numbers.{filled, mpint, signature_text}
use Rattle.wide_words.specs.Numbers.{big_endian, big_endian_from}
use Rattle.wire_text.proofs.WireLemmas.{length-string}
use Rattle.wire_text.specs.Wire.{string}

-- ---- zeros in front

significant-other : (n : ℕ) (octets : List ℕ) → significant (suc n ∷ octets) ≡ suc n ∷ octets
unfolding significant
significant-other n octets = rw (ne_eqb (suc n) 0 (λ e. omega (arith, e))) refl

no-more : (octets : List ℕ) → replicate (length octets - length octets) 0 ++ octets ≡ octets
no-more octets =
    let none : length octets - length octets ≡ 0 = omega arith in
    rw none refl

-- zeros stand in front of what is significant
zeros-before : (octets : List ℕ) → replicate (length octets - length (significant octets)) 0 ++ significant octets ≡ octets
unfolding significant
zeros-before [] = refl
zeros-before (zero ∷ octets) =
    let short = length-significant octets in
    let more : suc (length octets) - length (significant octets) ≡ suc (length octets - length (significant octets)) = omega (arith, short) in
    rw more (ap (λ (l : List ℕ). 0 ∷ l) (zeros-before octets))
zeros-before (suc n ∷ octets) = rw (significant-other n octets) (no-more (suc n ∷ octets))

-- and they are put back
pub filled-significant : (len : ℕ) (bytes : List ℕ) → length bytes ≡ len → filled len (significant bytes) ≡ Ok bytes
filled-significant len bytes is =
    subst (λ (l : ℕ). filled l (significant bytes) ≡ Ok bytes) is
    (filled-short (length bytes) (significant bytes) (length-significant bytes) ∙ ap (λ (b : List ℕ). Ok b) (zeros-before bytes))

-- bytes of the length that is wanted stay as they are
pub filled-whole : (len : ℕ) (bytes : List ℕ) → length bytes ≡ len → filled len bytes ≡ Ok bytes
filled-whole len bytes is =
    subst (λ (l : ℕ). filled l bytes ≡ Ok bytes) is
    (filled-short (length bytes) bytes (omega arith) ∙ ap (λ (b : List ℕ). Ok b) (no-more bytes))

-- no zero stands in front of a number's highest byte
pub significant-magnitude : (bytes : List ℕ) → IsMagnitude bytes → significant bytes ≡ bytes
significant-magnitude [] is = absurd is
significant-magnitude (zero ∷ low) is = absurd (is refl)
significant-magnitude (suc n ∷ low) is = significant-other n low

-- a number that isn't 0 has a highest byte
pub magnitude-significant : (bytes : List ℕ) → 0 < big_endian_from 0 bytes → IsMagnitude (significant bytes)
unfolding significant big_endian_from
magnitude-significant [] some = absurd (omega (arith, some))
magnitude-significant (zero ∷ bytes) some = magnitude-significant bytes some
magnitude-significant (suc n ∷ bytes) some =
    subst IsMagnitude (sym (significant-other n bytes)) (λ e. omega (arith, e))

-- ---- mpints

length-signed_by : (below : Bool) (high : ℕ) (low : List ℕ)
    → length (if below then high ∷ low else 0 ∷ high ∷ low) ≤ length (high ∷ low) + 1
length-signed_by true high low = omega arith
length-signed_by false high low = omega arith

-- an mpint has at most one byte more
length-signed : (bytes : List ℕ) → length (signed bytes) ≤ length bytes + 1
length-signed [] = omega arith
length-signed (high ∷ low) = length-signed_by (nat_lt high 128) high low

-- ---- r and s

-- the numbers of so many bytes each
abbrev pub numbers_of_halves : ℕ → List ℕ → SignatureNumbers
numbers_of_halves len bytes = record { r = significant (take len bytes); s = significant (take len (drop len bytes)) }

-- two mpints are short
two-fit : (r s : List ℕ) (len : ℕ) → len ≤ 66 → length r ≤ len + 1 → length s ≤ len + 1 → length (string r ++ string s) < 2 ^ 32
two-fit r s len few r_fits s_fits = omega (arith, length-append (string r) (string s), length-string r, length-string s)

-- r and s that aren't 0 are a signature
text-is : (curve : Curve) (len : ℕ) (bytes : List ℕ) → len ≤ 66 → length bytes ≡ len + len
    → 0 < big_endian (take len bytes) → 0 < big_endian (take len (drop len bytes))
    → IsSignature curve (ecdsa_text curve len bytes) (numbers_of_halves len bytes)
unfolding ecdsa_text signature_text mpint big_endian
text-is curve len bytes few sized r_some s_some =
    let r = take len bytes in
    let s = take len (drop len bytes) in
    let r_len : length r ≡ len = length-take-le len bytes (omega (arith, sized)) in
    let s_len : length s ≡ len = length-take-le len (drop len bytes) (omega (arith, sized, length-drop len bytes)) in
    let r_short : length (signed (significant r)) ≤ len + 1 = omega (arith, length-signed (significant r), length-significant r, r_len) in
    let s_short : length (signed (significant s)) ≤ len + 1 = omega (arith, length-signed (significant s), length-significant s, s_len) in
    record {
      text_is = refl;
      r = magnitude-significant r r_some;
      s = magnitude-significant s s_some;
      fits_r = omega (arith, r_short);
      fits_s = omega (arith, s_short);
      fits = two-fit (signed (significant r)) (signed (significant s)) len few r_short s_short;
    }

-- and both halves are all of the bytes
halves : (len : ℕ) (bytes : List ℕ) → length bytes ≡ len + len → take len bytes ++ take len (drop len bytes) ≡ bytes
halves len bytes sized =
    let rest : take len (drop len bytes) ≡ drop len bytes = take_all len (drop len bytes) (omega (arith, sized, length-drop len bytes)) in
    ap (λ (b : List ℕ). take len bytes ++ b) rest ∙ take-append-drop len bytes

-- r and s as SSH carries them are judged as they are
pub text-judged : (curve : Curve) (len : ℕ) (accepts : List ℕ → List ℕ → List ℕ → Bool) (point message bytes : List ℕ)
    → len ≤ 66 → length bytes ≡ len + len
    → 0 < big_endian (take len bytes) → 0 < big_endian (take len (drop len bytes))
    → ecdsa_judged curve len accepts point message (ecdsa_text curve len bytes) ≡ Ok (accepts point message bytes)
unfolding ecdsa_judged
text-judged curve len accepts point message bytes few sized r_some s_some =
    let r = take len bytes in
    let s = take len (drop len bytes) in
    let r_len : length r ≡ len = length-take-le len bytes (omega (arith, sized)) in
    let s_len : length s ≡ len = length-take-le len (drop len bytes) (omega (arith, sized, length-drop len bytes)) in
    rw (
      signature_is_read curve (ecdsa_text curve len bytes) (numbers_of_halves len bytes) (text-is curve len bytes few sized r_some s_some),
      filled-significant len r r_len,
      filled-significant len s s_len,
      halves len bytes sized,
    ) refl
