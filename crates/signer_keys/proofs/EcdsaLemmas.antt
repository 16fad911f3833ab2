-- Lemmas on signatures by ECDSA keys.
use Rattle.std.proofs.Common.{◌≡◌, ◌≢◌, ◌⊎◌, inl, inr, ℕ, Bool, true, false, ◌&&◌, if◌then◌else◌, List, Option, Some, None, refl, sym, ◌∙◌}
use Rattle.std.specs.Str.{bytes_eq}
use Rattle.std.proofs.lemmas.Slice.Eq.{bytes_eq-Decides}
use Rattle.p256_ecdsa.specs.Keys.{in_range as p256_in_range, public_key as p256_public_key}
use Rattle.p256_ecdsa.specs.Signatures.{signature as p256_bytes}
use Rattle.p384_ecdsa.specs.Keys.{in_range as p384_in_range, public_key as p384_public_key}
use Rattle.p384_ecdsa.specs.Signatures.{signature as p384_bytes}
use Rattle.sha2.specs.Sha256.{sha256}
use Rattle.sha2.specs.Sha512.{sha384}
use Rattle.signer_keys.specs.Ecdsa.{p256_signed, p384_signed}

-- without a test that fails there is no signature
not_both : (first second : Bool) (given : Option (List ℕ))
    → (first ≡ false) ⊎ ((second ≡ false) ⊎ (given ≡ None))
    → (if first && second then given else None) ≡ None
not_both false second given why = refl
not_both true false given why = refl
not_both true true given (inl is) = cc is
not_both true true given (inr (inl is)) = cc is
not_both true true given (inr (inr is)) = is

other-false : (xs ys : List ℕ) (test : Bool) → test ≡ bytes_eq xs ys → xs ≢ ys → test ≡ false
other-false xs ys false is other = refl
other-false xs ys true is other = absurd (other ((bytes_eq-Decides xs ys).0 (sym is)))

refused : (within : Bool) (point key : List ℕ) (given : Option (List ℕ))
    → (within ≡ false) ⊎ ((point ≢ key) ⊎ (given ≡ None))
    → None ≡ (if within && bytes_eq point key then given else None)
refused within point key given (inl is) = sym (not_both within (bytes_eq point key) given (inl is))
refused within point key given (inr (inl other)) =
    sym (not_both within (bytes_eq point key) given (inr (inl (other-false point key (bytes_eq point key) refl other))))
refused within point key given (inr (inr none)) = sym (not_both within (bytes_eq point key) given (inr (inr none)))

both : (first second : Bool) (given : Option (List ℕ)) → first ≡ true → second ≡ true
    → (if first && second then given else None) ≡ given
both true true given f s = refl
both true false given f s = cc s
both false second given f s = cc f

equal-true : (xs ys : List ℕ) → xs ≡ ys → bytes_eq xs ys ≡ true
equal-true xs ys is = (bytes_eq-Decides xs ys).1 is

allowed : (within : Bool) (point key bytes : List ℕ) (given : Option (List ℕ)) → within ≡ true
    → point ≡ key → given ≡ Some bytes
    → Some bytes ≡ (if within && bytes_eq point key then given else None)
allowed within point key bytes given is same some =
    sym (both within (bytes_eq point key) given is (equal-true point key same) ∙ some)

-- ---- P-256

pub p256-refused : (d : ℕ) (point message : List ℕ)
    → (p256_in_range d ≡ false) ⊎ ((point ≢ p256_public_key d) ⊎ (p256_bytes d (sha256 message) ≡ None))
    → None ≡ p256_signed d point message
p256-refused d point message why = refused (p256_in_range d) point (p256_public_key d) (p256_bytes d (sha256 message)) why

pub p256-given : (d : ℕ) (point message bytes : List ℕ) → p256_in_range d ≡ true
    → point ≡ p256_public_key d
    → p256_bytes d (sha256 message) ≡ Some bytes → Some bytes ≡ p256_signed d point message
p256-given d point message bytes is same some =
    allowed (p256_in_range d) point (p256_public_key d) bytes (p256_bytes d (sha256 message)) is same some

-- ---- P-384

pub p384-refused : (d : ℕ) (point message : List ℕ)
    → (p384_in_range d ≡ false) ⊎ ((point ≢ p384_public_key d) ⊎ (p384_bytes d (sha384 message) ≡ None))
    → None ≡ p384_signed d point message
p384-refused d point message why = refused (p384_in_range d) point (p384_public_key d) (p384_bytes d (sha384 message)) why

pub p384-given : (d : ℕ) (point message bytes : List ℕ) → p384_in_range d ≡ true
    → point ≡ p384_public_key d
    → p384_bytes d (sha384 message) ≡ Some bytes → Some bytes ≡ p384_signed d point message
p384-given d point message bytes is same some =
    allowed (p384_in_range d) point (p384_public_key d) bytes (p384_bytes d (sha384 message)) is same some
