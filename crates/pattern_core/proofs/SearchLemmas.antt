-- The search for pieces, each of which is taken where it fits first.
use Rattle.std.proofs.Common.{◌≡◌, ◌≢◌, ◌==◌, ◌&&◌, ◌||◌, ℕ, ◌+◌, ◌-◌, ◌<◌, ◌≤◌, zero, suc, eqb, Bool, true, false, List, [], ◌∷◌, length, take, drop, get_or, refl, ap, sym, ◌∙◌, arith, inl, inr, add-one}
use Rattle.std.proofs.lemmas.Bool.{ne_eqb, eq-eqb}
use Rattle.std.proofs.lemmas.Bool.Decides.{nat_tests, leb_tells}
use Rattle.std.proofs.lemmas.Bool.{eqb-true}
use Rattle.std.proofs.lemmas.List.{drop-drop, length-drop, length-take}
use Rattle.pattern_core.proofs.LetterLemmas.{length-read_text, get_or-read_text, read_byte-star, drop-read_text, take-read_text}
use Rattle.pattern_core.specs.declared.case.Case.{Case}
use Rattle.pattern_core.specs.Letters.{read_text}
use Rattle.pattern_core.proofs.PieceLemmas.{fits-short}
use Rattle.pattern_core.specs.Patterns.{star, is_match, some_end, some_end_is_match}
use Rattle.pattern_core.specs.Pieces.{fits, IsFirst, IsNowhere}

-- the first so many bytes of the pattern are other than `*`
pub record IsPlain (pattern : List ℕ) (len : ℕ) : Type 0 where
  pub plain : (k : ℕ) → k < len → get_or pattern k 0 ≢ star

-- behind one of them the others are
pub IsPlain-rest : (wanted : ℕ) (pattern : List ℕ) (len : ℕ) → IsPlain (wanted ∷ pattern) (suc len) → IsPlain pattern len
IsPlain-rest wanted pattern len is = record { plain = λ k below. is.plain (suc k) (omega arith) }

-- the first of them
pub IsPlain-first : (wanted : ℕ) (pattern : List ℕ) (len : ℕ) → IsPlain (wanted ∷ pattern) (suc len) → eqb wanted star ≡ false
IsPlain-first wanted pattern len is = ne_eqb wanted star (is.plain 0 (omega arith))

-- a pattern without `*` takes in texts of its length alone, where it fits
pub is_match-plain : (text pattern : List ℕ) → IsPlain pattern (length pattern)
    → is_match text pattern ≡ (length text == length pattern && fits text pattern)
unfolding is_match fits
is_match-plain [] [] is = refl
is_match-plain (x ∷ xs) [] is = grind (arith, nat_tests)
is_match-plain [] (w ∷ ws) is = let first = IsPlain-first w ws (length ws) is in grind (arith, nat_tests, first)
is_match-plain (x ∷ xs) (w ∷ ws) is =
    let first = IsPlain-first w ws (length ws) is in
    let rest = is_match-plain xs ws (IsPlain-rest w ws (length ws) is) in
    grind (arith, nat_tests, first, rest)

-- a pattern with a `*` takes in a text whose beginning its first piece does, where what is behind the `*` takes in
-- some end of the rest
pub is_match-piece : (text pattern : List ℕ) (len : ℕ) → IsPlain pattern len → len < length pattern → get_or pattern len 0 ≡ star
    → is_match text pattern ≡ (fits text (take len pattern) && some_end_is_match (drop len text) (drop (suc len) pattern))
unfolding is_match fits
is_match-piece text [] len is within ends = absurd (omega arith)
is_match-piece text (w ∷ ws) zero is within ends = rw (eq-eqb w star ends) refl
is_match-piece [] (w ∷ ws) (suc len) is within ends =
    let first = IsPlain-first w ws len is in grind (arith, nat_tests, first)
is_match-piece (x ∷ xs) (w ∷ ws) (suc len) is within ends =
    let first = IsPlain-first w ws len is in
    let rest = is_match-piece xs ws len (IsPlain-rest w ws len is) (omega arith) ends in
    grind (arith, nat_tests, first, rest)

-- tests that answer alike
pub some_end-same : (test other : List ℕ → Bool) → ((text : List ℕ) → test text ≡ other text) → (text : List ℕ)
    → some_end test text ≡ some_end other text
some_end-same test other same [] = same []
some_end-same test other same (x ∷ xs) =
    let here = same (x ∷ xs) in
    let later = some_end-same test other same xs in
    grind (arith, here, later)

-- some end passes where the whole does or a later one
pub some_end-drop : (test : List ℕ → Bool) (n : ℕ) (text : List ℕ) → some_end test (drop n text) ≡ true → some_end test text ≡ true
some_end-drop test zero text h = h
some_end-drop test (suc n) [] h = h
some_end-drop test (suc n) (x ∷ xs) h = let later = some_end-drop test n xs h in grind (arith, later)

-- one byte more is left out
pub some_end-drop_suc : (test : List ℕ → Bool) (n : ℕ) (text : List ℕ) → some_end test (drop (suc n) text) ≡ true → some_end test (drop n text) ≡ true
some_end-drop_suc test zero [] h = h
some_end-drop_suc test (suc n) [] h = h
some_end-drop_suc test zero (x ∷ xs) h = grind (arith, h)
some_end-drop_suc test (suc n) (x ∷ xs) h = some_end-drop_suc test n xs h

-- no end passes where none does at any place
pub some_end-none : (test : List ℕ → Bool) (text : List ℕ) → ((k : ℕ) → k ≤ length text → test (drop k text) ≡ false) → some_end test text ≡ false
some_end-none test [] none = none 0 (omega arith)
some_end-none test (x ∷ xs) none =
    let here = none 0 (omega arith) in
    let later = some_end-none test xs (λ k below. none (suc k) (omega arith)) in
    grind (arith, here, later)

-- a piece, and some end of what follows it
abbrev pub piece_and_end : List ℕ → ℕ → (List ℕ → Bool) → List ℕ → Bool
piece_and_end piece len test text = fits text piece && some_end test (drop len text)

-- where a piece and an end are anywhere in a text, the end is in what is behind its first bytes
pub some_end-behind : (piece : List ℕ) (len : ℕ) (test : List ℕ → Bool) (text : List ℕ)
    → some_end (piece_and_end piece len test) text ≡ true → some_end test (drop len text) ≡ true
some_end-behind piece len test [] h = grind (arith, h)
some_end-behind piece len test (x ∷ xs) h =
    let ih = some_end-behind piece len test xs in
    let behind = some_end-drop_suc test len (x ∷ xs) in
    grind (arith, h, ih, behind)

-- a piece is taken where it fits first
pub some_end-first : (piece : List ℕ) (len : ℕ) (test : List ℕ → Bool) (place : ℕ) (text : List ℕ) → place ≤ length text
    → fits (drop place text) piece ≡ true → ((k : ℕ) → k < place → fits (drop k text) piece ≡ false)
    → some_end (piece_and_end piece len test) text ≡ some_end test (drop len (drop place text))
some_end-first piece len test zero [] within here before = grind (arith, here)
some_end-first piece len test zero (x ∷ xs) within here before =
    let later = some_end-behind piece len test xs in
    let behind = some_end-drop_suc test len (x ∷ xs) in
    grind (arith, here, later, behind)
some_end-first piece len test (suc place) [] within here before = absurd (omega arith)
some_end-first piece len test (suc place) (x ∷ xs) within here before =
    let first = before 0 (omega arith) in
    let rest = some_end-first piece len test place xs (omega arith) here (λ k below. before (suc k) (omega arith)) in
    grind (arith, first, rest)

-- nothing is added
pub or-false : (b : Bool) → (b || false) ≡ b
or-false true = refl
or-false false = refl

-- no end of a shorter text is as long as a pattern without `*`
pub some_end-short : (text pattern : List ℕ) → IsPlain pattern (length pattern) → length text < length pattern
    → some_end_is_match text pattern ≡ false
some_end-short text pattern is short =
    some_end-none (λ rest. is_match rest pattern) text (λ k below.
    let apart : (length (drop k text) == length pattern) ≡ false =
    ne_eqb (length (drop k text)) (length pattern) (λ e. absurd (omega (arith, length-drop k text))) in
    is_match-plain (drop k text) pattern is ∙ ap (λ b. b && fits (drop k text) pattern) apart)

-- a pattern without `*` takes in some end of a text where it fits at the end of its own length
pub some_end-plain : (text pattern : List ℕ) → IsPlain pattern (length pattern) → length pattern ≤ length text
    → some_end_is_match text pattern ≡ fits (drop (length text - length pattern) text) pattern
unfolding is_match fits
some_end-plain [] [] is within = refl
some_end-plain [] (w ∷ ws) is within = absurd (omega arith)
some_end-plain (x ∷ xs) pattern is within = elim (leb_tells (length pattern) (length xs)) [
  | inl h ↦
      let apart : (suc (length xs) == length pattern) ≡ false =
      ne_eqb (suc (length xs)) (length pattern) (λ e. absurd (omega (arith, h.1))) in
      let here : is_match (x ∷ xs) pattern ≡ false =
      is_match-plain (x ∷ xs) pattern is ∙ ap (λ b. b && fits (x ∷ xs) pattern) apart in
      let later = some_end-plain xs pattern is h.1 in
      let place : suc (length xs) - length pattern ≡ suc (length xs - length pattern) = omega (arith, h.1) in
      ap (λ b. b || some_end_is_match xs pattern) here ∙ later
      ∙ sym (ap (λ n. fits (drop n (x ∷ xs)) pattern) place)
  | inr h ↦
      let same : (suc (length xs) == length pattern) ≡ true =
      eq-eqb (suc (length xs)) (length pattern) (omega (arith, h.1)) in
      let here : is_match (x ∷ xs) pattern ≡ fits (x ∷ xs) pattern =
      is_match-plain (x ∷ xs) pattern is ∙ ap (λ b. b && fits (x ∷ xs) pattern) same in
      let later = some_end-short xs pattern is h.1 in
      let place : suc (length xs) - length pattern ≡ 0 = omega (arith, h.1) in
      ap (λ b. is_match (x ∷ xs) pattern || b) later ∙ or-false (is_match (x ∷ xs) pattern) ∙ here
      ∙ sym (ap (λ n. fits (drop n (x ∷ xs)) pattern) place)
]

-- what is read of a pattern has a `*` where the pattern has
pub IsPlain-read : (case : Case) (pattern : List ℕ) (len : ℕ) → ((k : ℕ) → k < len → get_or pattern k 0 ≢ star)
    → IsPlain (read_text case pattern) len
IsPlain-read case pattern len is = record {
  plain = λ k below e. is k below (eqb-true (get_or pattern k 0) star
      (sym (read_byte-star case (get_or pattern k 0)) ∙ eq-eqb _ star (sym (get_or-read_text case pattern k) ∙ e)));
}

-- the same of the `*` itself
pub star-read : (case : Case) (pattern : List ℕ) (k : ℕ) → get_or pattern k 0 ≡ star → get_or (read_text case pattern) k 0 ≡ star
star-read case pattern k e =
    eqb-true _ star (ap (λ b. b == star) (get_or-read_text case pattern k) ∙ read_byte-star case (get_or pattern k 0) ∙ eq-eqb _ star e)

-- how a pattern begins: `len` bytes other than `*`, and then a `*` or its end
pub record Begins (pattern : List ℕ) (len : ℕ) : Type 0 where
  pub within : len ≤ length pattern
  pub plain : (k : ℕ) → k < len → get_or pattern k 0 ≢ star
  pub ends : len < length pattern → get_or pattern len 0 ≡ star

-- where there is none behind them, the whole is as is read
pub IsPlain-whole : (case : Case) (pattern : List ℕ) (len : ℕ) → Begins pattern len → len ≡ length pattern
    → IsPlain (read_text case pattern) (length (read_text case pattern))
IsPlain-whole case pattern len is whole =
    IsPlain-read case pattern (length (read_text case pattern)) (λ k below. is.plain k (omega (arith, length-read_text case pattern)))

-- a text of another length
pub is_match-other : (case : Case) (text pattern : List ℕ) (len : ℕ) → Begins pattern len → len ≡ length pattern
    → length text ≢ len → is_match (read_text case text) (read_text case pattern) ≡ false
is_match-other case text pattern len is whole other =
    let apart : (length (read_text case text) == length (read_text case pattern)) ≡ false =
    ne_eqb _ _ (λ e. other (omega (arith, e, length-read_text case text, length-read_text case pattern))) in
    is_match-plain _ _ (IsPlain-whole case pattern len is whole) ∙ ap (λ b. b && fits (read_text case text) (read_text case pattern)) apart

-- a text of its length
pub is_match-whole : (case : Case) (text pattern : List ℕ) (len : ℕ) → Begins pattern len → len ≡ length pattern
    → length text ≡ len → is_match (read_text case text) (read_text case pattern) ≡ fits (read_text case text) (read_text case pattern)
is_match-whole case text pattern len is whole same =
    let alike : (length (read_text case text) == length (read_text case pattern)) ≡ true =
    eq-eqb _ _ (omega (arith, same, whole, length-read_text case text, length-read_text case pattern)) in
    is_match-plain _ _ (IsPlain-whole case pattern len is whole) ∙ ap (λ b. b && fits (read_text case text) (read_text case pattern)) alike

-- a first piece, and what is behind its `*`
pub is_match-parts : (case : Case) (text pattern : List ℕ) (len : ℕ) → Begins pattern len → len ≢ length pattern
    → is_match (read_text case text) (read_text case pattern)
    ≡ (fits (read_text case text) (read_text case (take len pattern))
    && some_end_is_match (read_text case (drop len text)) (read_text case (drop (len + 1) pattern)))
is_match-parts case text pattern len is part =
    let within : len < length pattern = omega (arith, is.within, part) in
    let read : len < length (read_text case pattern) = omega (arith, length-read_text case pattern) in
    let parts = is_match-piece (read_text case text) (read_text case pattern) len (IsPlain-read case pattern len is.plain) read
    (star-read case pattern len (is.ends within)) in
    let piece = take-read_text case len pattern in
    let behind = drop-read_text case len text in
    let rest : drop (suc len) (read_text case pattern) ≡ read_text case (drop (len + 1) pattern) =
    ap (λ n. drop n (read_text case pattern)) (sym (add-one len)) ∙ drop-read_text case (len + 1) pattern in
    parts ∙ rw (piece, behind, rest) refl

-- the ends of a text, for a pattern that has a `*`
pub some_end-parts : (case : Case) (pattern : List ℕ) (len : ℕ) → Begins pattern len → len ≢ length pattern → (text : List ℕ)
    → some_end_is_match text (read_text case pattern)
    ≡ some_end (piece_and_end (read_text case (take len pattern)) len (λ rest. is_match rest (read_text case (drop (len + 1) pattern)))) text
some_end-parts case pattern len is part text =
    let within : len < length pattern = omega (arith, is.within, part) in
    let read : len < length (read_text case pattern) = omega (arith, length-read_text case pattern) in
    let rest : drop (suc len) (read_text case pattern) ≡ read_text case (drop (len + 1) pattern) =
    ap (λ n. drop n (read_text case pattern)) (sym (add-one len)) ∙ drop-read_text case (len + 1) pattern in
    let piece = take-read_text case len pattern in
    some_end-same _ _ (λ t.
    is_match-piece t (read_text case pattern) len (IsPlain-read case pattern len is.plain) read (star-read case pattern len (is.ends within))
    ∙ ap (λ p. fits t p && some_end_is_match (drop len t) (drop (suc len) (read_text case pattern))) piece
    ∙ ap (λ p. fits t (read_text case (take len pattern)) && some_end_is_match (drop len t) p) rest) text

-- a piece that fits somewhere
pub some_end-found : (case : Case) (text pattern : List ℕ) (len place : ℕ) → Begins pattern len → len ≢ length pattern
    → IsFirst (read_text case text) (read_text case (take len pattern)) place
    → some_end_is_match (read_text case text) (read_text case pattern)
    ≡ some_end_is_match (read_text case (drop len (drop place text))) (read_text case (drop 1 (drop len pattern)))
some_end-found case text pattern len place is part first =
    let within : place ≤ length (read_text case text) = omega (arith, first.within) in
    let behind : drop len (drop place (read_text case text)) ≡ read_text case (drop len (drop place text)) =
    ap (drop len) (drop-read_text case place text) ∙ drop-read_text case len (drop place text) in
    some_end-parts case pattern len is part (read_text case text)
    ∙ some_end-first _ len (λ rest. is_match rest (read_text case (drop (len + 1) pattern))) place (read_text case text) within
    first.here first.before
    ∙ ap (λ t. some_end_is_match t (read_text case (drop (len + 1) pattern))) behind
    ∙ ap (λ p. some_end_is_match (read_text case (drop len (drop place text))) (read_text case p)) (sym (drop-drop 1 len pattern))

-- a piece that fits nowhere
pub some_end-nowhere : (case : Case) (text pattern : List ℕ) (len : ℕ) → Begins pattern len → len ≢ length pattern
    → IsNowhere (read_text case text) (read_text case (take len pattern))
    → some_end_is_match (read_text case text) (read_text case pattern) ≡ false
some_end-nowhere case text pattern len is part none =
    let T = read_text case text in
    let piece = read_text case (take len pattern) in
    let no_place : (k : ℕ) → k ≤ length T → fits (drop k T) piece ≡ false =
    λ k below. elim (leb_tells (k + length piece) (length T)) [
      | inl h ↦ none.nowhere k h.1
      | inr h ↦ fits-short (drop k T) piece (omega (arith, h.1, length-drop k T))
    ] in
    some_end-parts case pattern len is part T
    ∙ some_end-none (piece_and_end piece len (λ rest. is_match rest (read_text case (drop (len + 1) pattern)))) T (λ k below. ap (λ b. b && some_end_is_match (drop len (drop k T)) (read_text case (drop (len + 1) pattern))) (no_place k below))

-- the end of a text, for a pattern without `*`
pub some_end-whole : (case : Case) (text pattern : List ℕ) (len : ℕ) → Begins pattern len → len ≡ length pattern → len ≤ length text
    → some_end_is_match (read_text case text) (read_text case pattern)
    ≡ fits (read_text case (drop (length text - len) text)) (read_text case pattern)
some_end-whole case text pattern len is whole within =
    let enough : length (read_text case pattern) ≤ length (read_text case text) =
    omega (arith, whole, length-read_text case text, length-read_text case pattern) in
    let place : length (read_text case text) - length (read_text case pattern) ≡ length text - len =
    omega (arith, whole, length-read_text case text, length-read_text case pattern) in
    some_end-plain (read_text case text) (read_text case pattern) (IsPlain-whole case pattern len is whole) enough
    ∙ ap (λ n. fits (drop n (read_text case text)) (read_text case pattern)) place
    ∙ ap (λ t. fits t (read_text case pattern)) (drop-read_text case (length text - len) text)

-- a text that is shorter than it
pub some_end-too_short : (case : Case) (text pattern : List ℕ) (len : ℕ) → Begins pattern len → len ≡ length pattern → length text < len
    → some_end_is_match (read_text case text) (read_text case pattern) ≡ false
some_end-too_short case text pattern len is whole short =
    some_end-short _ _ (IsPlain-whole case pattern len is whole)
    (omega (arith, whole, length-read_text case text, length-read_text case pattern))

-- a text that is shorter than a first piece
pub piece-too_short : (case : Case) (text pattern : List ℕ) (len : ℕ) → Begins pattern len → length text < len
    → fits (read_text case text) (read_text case (take len pattern)) ≡ false
piece-too_short case text pattern len is short =
    fits-short (read_text case text) (read_text case (take len pattern))
    (omega (arith, is.within, length-read_text case text, length-read_text case (take len pattern), length-take len pattern))
