-- The first line of a text: what is in the grammar is read, and want of memory isn't carried.
use Rattle.std.proofs.Common.{◌≡◌, ◌⊎◌, inl, inr, ℕ, List, [], ◌∷◌, ◌++◌, Ok, Err, refl, ap, ◌∙◌}
use Rattle.std.proofs.lemmas.List.{append-nil}
use Rattle.key_blob.specs.declared.fault.KeyFault.TheVariants as key_fault
use Rattle.key_file.specs.declared.fault.PubFault.TheVariants.{Key}
use Rattle.key_file.specs.PublicLines.{IsWord, EndsWord, IsPublicLine, parts, first, words_key, line_key}
use Rattle.key_file.proofs.PartLemmas.{HasNo, first-append, parts-at, parts-whole, space_goes_on}
use Rattle.key_file.proofs.LineLemmas.{typed_is_read, typed_needs_none}

no_space : (word : List ℕ) → IsWord word → HasNo 32 word
no_space word is i d within = (is i d within).0

no_end : (word : List ℕ) → IsWord word → HasNo 10 word
no_end word is i d within = (is i d within).1

-- the first line of what follows a word
abbrev line_end : List ℕ → List ℕ
line_end rest = first (parts 10 rest)

-- it is nothing, or a space and more
ends_so : (rest : List ℕ) → EndsWord rest
    → (line_end rest ≡ []) ⊎ ((more : List ℕ) × (line_end rest ≡ 32 ∷ more))
ends_so [] end = inl refl
ends_so (byte ∷ rest) (inl space) = inr (line_end rest, ap (λ (b : ℕ). line_end (b ∷ rest)) space ∙ first-append 10 (32 ∷ []) rest space_goes_on)
ends_so (byte ∷ rest) (inr feed) = inl (ap (λ (b : ℕ). line_end (b ∷ rest)) feed)

first_line : (type encoded rest : List ℕ) → IsWord type → IsWord encoded
    → first (parts 10 (type ++ 32 ∷ (encoded ++ rest))) ≡ type ++ 32 ∷ (encoded ++ line_end rest)
first_line type encoded rest is_type is_encoded =
    first-append 10 type (32 ∷ (encoded ++ rest)) (no_end type is_type)
    ∙ ap (λ (t : List ℕ). type ++ t) (first-append 10 (32 ∷ []) (encoded ++ rest) space_goes_on)
    ∙ ap (λ (t : List ℕ). type ++ 32 ∷ t) (first-append 10 encoded rest (no_end encoded is_encoded))

encoded_first : (encoded end : List ℕ) → HasNo 32 encoded
    → (end ≡ []) ⊎ ((more : List ℕ) × (end ≡ 32 ∷ more)) →
    (others : List (List ℕ)) × (parts 32 (encoded ++ end) ≡ encoded ∷ others)
encoded_first encoded end free (inl none) = ([], ap (λ (t : List ℕ). parts 32 (encoded ++ t)) none ∙ ap (parts 32) (append-nil encoded) ∙ parts-whole 32 encoded free)
encoded_first encoded end free (inr more) = (parts 32 more.0, ap (λ (t : List ℕ). parts 32 (encoded ++ t)) more.1 ∙ parts-at 32 encoded more.0 free)

pub line_is_read : (text blob : List ℕ) → IsPublicLine text blob → line_key text ≡ Ok blob
unfolding line_key
line_is_read text blob is =
    let line : first (parts 10 text) ≡ is.type ++ 32 ∷ (is.encoded ++ line_end is.rest) =
    ap (λ (t : List ℕ). first (parts 10 t)) is.text_is ∙ first_line is.type is.encoded is.rest is.type_word is.encoded_word in
    let end = encoded_first is.encoded (line_end is.rest) (no_space is.encoded is.encoded_word) (ends_so is.rest is.end) in
    let words : parts 32 (is.type ++ 32 ∷ (is.encoded ++ line_end is.rest)) ≡ is.type ∷ is.encoded ∷ end.0 =
    parts-at 32 is.type (is.encoded ++ line_end is.rest) (no_space is.type is.type_word) ∙ ap (λ (t : List (List ℕ)). is.type ∷ t) end.1 in
    ap (λ (t : List ℕ). words_key (parts 32 t)) line ∙ ap words_key words ∙ typed_is_read is.type is.encoded blob is.typed

-- ---- want of memory is the line's own

words_need_none : (words : List (List ℕ)) → words_key words ≡ Err (Key key_fault.Memory) → ⊥
words_need_none [] e = cc
words_need_none (type ∷ []) e = cc
words_need_none (type ∷ text ∷ comment) e = typed_needs_none type text e

pub line_needs_none : (text : List ℕ) → line_key text ≡ Err (Key key_fault.Memory) → ⊥
unfolding line_key
line_needs_none text e = words_need_none (parts 32 (first (parts 10 text))) e
