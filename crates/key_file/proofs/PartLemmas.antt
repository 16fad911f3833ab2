-- The parts of a text, one after another.
use Rattle.std.proofs.Common.{◌≡◌, ◌≢◌, ◌≤◌, ◌⊎◌, inl, inr, ℕ, ◌+◌, eqb, Bool, false, List, [], ◌∷◌, ◌++◌, take, drop, length, get_or, Some, None, position, refl, ap, subst, ◌∙◌, arith}
use Rattle.std.specs.Prelude.{All}
use Rattle.std.specs.List.{position_or_len, onto_first}
use Rattle.std.proofs.lemmas.Grind.{common_steps}
use Rattle.std.proofs.lemmas.Bool.{cases_eq, eq-eqb, ne_eqb}
use Rattle.std.proofs.lemmas.Bool.Decides.{nat_tests}
use Rattle.std.proofs.lemmas.List.Elements.{All-cons, All-tail, All-take, All-drop}
use Rattle.std.proofs.lemmas.List.{take_at, drop_at}
use Rattle.std.proofs.lemmas.List.Sums.{fails_before_first}
use Rattle.std.proofs.lemmas.List.Splits.{slice_split_first, slice_split_none, slice_split_at, slice_split-cons_no}
use Rattle.std.proofs.lemmas.List.Quantifiers.{position-Some}
use Rattle.key_file.specs.PublicLines.{parts, first}

-- the byte is the mark
abbrev pub is_mark : ℕ → ℕ → Bool
is_mark mark byte = eqb byte mark

-- the first part ends at the first mark, and the others stand behind it
pub parts-mark : (mark : ℕ) (text : List ℕ) (end : ℕ) → position (is_mark mark) text ≡ Some end
    → parts mark text ≡ take end text ∷ parts mark (drop (end + 1) text)
parts-mark mark text end found =
    grind (arith, common_steps, position-Some (is_mark mark) text end 0 found, slice_split_first (is_mark mark) text 0)

-- a text without the mark is one part
pub parts-none : (mark : ℕ) (text : List ℕ) → position (is_mark mark) text ≡ None
    → parts mark text ≡ text ∷ []
parts-none mark text none =
    let past : length text ≤ position_or_len (is_mark mark) text = grind (arith, nat_tests) in
    slice_split_none (is_mark mark) text (λ k d within. fails_before_first (is_mark mark) text k d (omega arith))

-- ---- texts that are put together

-- no byte of the text is the mark
abbrev pub HasNo : ℕ → List ℕ → Type 0
HasNo mark text = All (λ byte. byte ≢ mark) text

pub has_none : (mark : ℕ) (text : List ℕ) → HasNo mark text
    → All (λ byte. is_mark mark byte ≡ false) text
has_none mark text free = λ i d within. ne_eqb (get_or text i d) mark (free i d within)

-- the first part of a text that begins without the mark
pub first-append : (mark : ℕ) (front rest : List ℕ) → HasNo mark front
    → first (parts mark (front ++ rest)) ≡ front ++ first (parts mark rest)
first-append mark [] rest free = refl
first-append mark (x ∷ front) rest free =
    let differs : is_mark mark x ≡ false = ne_eqb x mark (free 0 0 (omega arith)) in
    rw (slice_split-cons_no (is_mark mark) x (front ++ rest) differs)
    (first_onto x (parts mark (front ++ rest)) ∙ ap (λ (t : List ℕ). x ∷ t) (first-append mark front rest (All-tail (λ byte. byte ≢ mark) x front free)))
  where
    first_onto : (y : ℕ) (others : List (List ℕ)) → first (onto_first y others) ≡ y ∷ first others
    first_onto y [] = refl
    first_onto y (one ∷ more) = refl

-- a text in front of a mark is the first part
pub parts-at : (mark : ℕ) (front rest : List ℕ) → HasNo mark front
    → parts mark (front ++ mark ∷ rest) ≡ front ∷ parts mark rest
parts-at mark front rest free = slice_split_at (is_mark mark) front mark rest (has_none mark front free) (eq-eqb mark mark refl)

pub parts-whole : (mark : ℕ) (text : List ℕ) → HasNo mark text → parts mark text ≡ text ∷ []
parts-whole mark text free = slice_split_none (is_mark mark) text (has_none mark text free)

-- ---- texts that are taken apart

-- the text has no mark, or it is cut at the first one
pub record IsCut (mark : ℕ) (text : List ℕ) : Type 0 where
  pub front : List ℕ
  pub rest : List ℕ
  pub free : HasNo mark front
  pub whole : text ≡ front ++ mark ∷ rest

pub cut_cases : (mark : ℕ) (text : List ℕ) → HasNo mark text ⊎ IsCut mark text
cut_cases mark [] = inl (λ i d within. absurd (omega arith))
cut_cases mark (x ∷ text) = elim (cases_eq x mark) [
  | inl same ↦ inr (record { front = []; rest = text; free = λ i d within. absurd (omega arith); whole = ap (λ (y : ℕ). y ∷ text) same })
  | inr differs ↦ elim (cut_cases mark text) [
    | inl none ↦ inl (All-cons (λ byte. byte ≢ mark) x text differs none)
    | inr cut ↦ inr (record {
      front = x ∷ cut.front;
      rest = cut.rest;
      free = All-cons (λ byte. byte ≢ mark) x cut.front differs cut.free;
      whole = ap (λ (t : List ℕ). x ∷ t) cut.whole;
    })
  ]
]

-- ---- what holds of each byte of two texts holds of those of each

pub front_all : (P : ℕ → Type 0) (front rest : List ℕ) → All P (front ++ rest) → All P front
front_all P front rest each = subst (All P) (take_at front rest (length front) refl) (All-take P (length front) (front ++ rest) each)

pub rest_all : (P : ℕ → Type 0) (front rest : List ℕ) → All P (front ++ rest) → All P rest
rest_all P front rest each = subst (All P) (drop_at front rest (length front) refl) (All-drop P (length front) (front ++ rest) each)

pub words_all : (P : ℕ → Type 0) (front : List ℕ) (mark : ℕ) (middle rest : List ℕ)
    → All P (front ++ mark ∷ (middle ++ rest)) → All P front × All P middle
words_all P front mark middle rest each = (
  front_all P front (mark ∷ (middle ++ rest)) each,
  front_all P middle rest (All-tail P mark (middle ++ rest) (rest_all P front (mark ∷ (middle ++ rest)) each)),
)

-- a space ends no line
pub space_goes_on : HasNo 10 (32 ∷ [])
space_goes_on = All-cons (λ byte. byte ≢ 10) 32 [] (λ same. absurd (omega (arith, same))) (λ i d within. absurd (omega arith))
