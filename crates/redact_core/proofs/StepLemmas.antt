-- Strings of zeros follow one another.
use Rattle.std.proofs.Common.{◌≡◌, ◌≤◌, ◌<◌, ℕ, zero, suc, List, [], ◌∷◌, ◌++◌, length, replicate, Option, Some, None, refl, sym, ap, ◌∙◌, arith}
use Rattle.wire_text.specs.Wire.{string}
use Rattle.wire_core.specs.Fields.{string_at}
use Rattle.key_blob.proofs.PrincipalLemmas.{string_shorter}
use Rattle.redact_core.specs.Redaction.{blank, blank_by, blank_up_to}
use Rattle.redact_core.proofs.BlankLemmas.{nothing_there, zeros}

blank_found : (m n : ℕ) (bytes : List ℕ) (found : Option (List ℕ × List ℕ)) → string_at bytes ≡ found
    → ((rest : List ℕ) → length rest < length bytes → blank_up_to m rest ≡ blank_up_to n rest)
    → blank_by found (blank_up_to m) ≡ blank_by found (blank_up_to n)
blank_found m n bytes None is same = refl
blank_found m n bytes (Some found) is same = ap (λ l. string (zeros found.0) ++ l)
    (same found.1 (string_shorter bytes found is))

blank_nothing : (n : ℕ) (bytes : List ℕ) → length bytes ≤ 0 → blank_up_to n bytes ≡ []
blank_nothing zero bytes none = refl
blank_nothing (suc n) [] none = ap (λ found. blank_by found (blank_up_to n)) nothing_there
blank_nothing (suc n) (byte ∷ bytes) none = absurd (omega (arith, none))

-- how many are blanked at most doesn't matter
blank_same : (m n : ℕ) (bytes : List ℕ) → length bytes ≤ m → length bytes ≤ n
    → blank_up_to m bytes ≡ blank_up_to n bytes
blank_same zero n bytes in_m in_n = sym (blank_nothing n bytes in_m)
blank_same (suc m) zero bytes in_m in_n = blank_nothing (suc m) bytes in_n
blank_same (suc m) (suc n) bytes in_m in_n =
    blank_found m n bytes (string_at bytes) refl (λ rest shorter. blank_same m n rest
    (omega (arith, shorter, in_m)) (omega (arith, shorter, in_n)))

blank_again : (bytes : List ℕ) → blank bytes ≡ blank_by (string_at bytes) (blank_up_to (length bytes))
blank_again bytes = blank_same (length bytes) (suc (length bytes)) bytes (omega arith) (omega arith)

-- a string at the front is blanked first
pub blank-step : (bytes content rest : List ℕ) → string_at bytes ≡ Some (content, rest)
    → blank bytes ≡ string (replicate (length content) 0) ++ blank rest
blank-step bytes content rest is =
    let found : List ℕ × List ℕ = (content, rest) in
    blank_again bytes ∙ ap (λ (o : Option (List ℕ × List ℕ)). blank_by o (blank_up_to (length bytes))) is
    ∙ ap (λ l. string (zeros content) ++ l) (blank_same (length bytes) (length rest) rest
    (omega (arith, string_shorter bytes found is)) (omega arith))
