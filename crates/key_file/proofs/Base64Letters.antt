-- Texts of base64 have no byte but those of the alphabet and `=`, so no `|`.
use Rattle.std.proofs.Common.{◌≡◌, ◌≢◌, ℕ, zero, suc, ◌+◌, ◌*◌, ◌/◌, ◌%◌, eqb, not, Bool, true, List, [], ◌∷◌, get_or, refl, sym, subst, arith}
use Rattle.std.specs.List.{list_all}
use Rattle.std.proofs.lemmas.Bool.{and_parts, not-true, eqb-false}
use Rattle.std.proofs.lemmas.List.Elements.{All-cons}
use Rattle.key_file.specs.Base64.{IsBase64, alphabet, character, filler, base64}
use Rattle.key_file.proofs.PartLemmas.{HasNo}

-- the byte is no `|`
abbrev is_letter : ℕ → Bool
is_letter byte = not (eqb byte 124)

zero_is_none : zero ≡ 124 → ⊥
zero_is_none same = absurd (omega (arith, same))

places : (bytes : List ℕ) → list_all is_letter bytes ≡ true → (i : ℕ) → get_or bytes i 0 ≢ 124
places [] each i = zero_is_none
places (x ∷ bytes) each zero = eqb-false x 124 (not-true (eqb x 124) (and_parts (is_letter x) (list_all is_letter bytes) each).0)
places (x ∷ bytes) each (suc i) = places bytes (and_parts (is_letter x) (list_all is_letter bytes) each).1 i

letter : (bits : ℕ) → character bits ≢ 124
letter bits = places alphabet refl bits

filler_is_none : filler ≢ 124
filler_is_none same = absurd (omega (arith, same))

none_left : HasNo 124 []
none_left i d within = absurd (omega arith)

with_letter : (x : ℕ) (rest : List ℕ) → x ≢ 124 → HasNo 124 rest → HasNo 124 (x ∷ rest)
with_letter x rest free others = All-cons (λ byte. byte ≢ 124) x rest free others

letters : (bytes : List ℕ) → HasNo 124 (base64 bytes)
unfolding base64
letters [] = none_left
letters (a ∷ []) =
    with_letter (character (a / 4)) (character (a % 4 * 16) ∷ filler ∷ filler ∷ []) (letter (a / 4)) (with_letter (character (a % 4 * 16)) (filler ∷ filler ∷ []) (letter (a % 4 * 16))
    (with_letter filler (filler ∷ []) filler_is_none (with_letter filler [] filler_is_none none_left)))
letters (a ∷ b ∷ []) =
    let second = a % 4 * 16 + b / 16 in
    with_letter (character (a / 4)) (character second ∷ character (b % 16 * 4) ∷ filler ∷ []) (letter (a / 4)) (with_letter (character second) (character (b % 16 * 4) ∷ filler ∷ []) (letter second)
    (with_letter (character (b % 16 * 4)) (filler ∷ []) (letter (b % 16 * 4)) (with_letter filler [] filler_is_none none_left)))
letters (a ∷ b ∷ c ∷ rest) =
    let second = a % 4 * 16 + b / 16 in
    let third = b % 16 * 4 + c / 64 in
    with_letter (character (a / 4)) (character second ∷ character third ∷ character (c % 64) ∷ base64 rest) (letter (a / 4))
    (with_letter (character second) (character third ∷ character (c % 64) ∷ base64 rest) (letter second)
    (with_letter (character third) (character (c % 64) ∷ base64 rest) (letter third)
    (with_letter (character (c % 64)) (base64 rest) (letter (c % 64)) (letters rest))))

pub no_bar : (text bytes : List ℕ) → IsBase64 text bytes → HasNo 124 text
no_bar text bytes is = subst (HasNo 124) (sym is.encoded) (letters bytes)
