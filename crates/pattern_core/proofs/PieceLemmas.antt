-- Where a piece fits, byte by byte.
use Rattle.std.proofs.Common.{◌≡◌, ◌≢◌, ◌==◌, ◌&&◌, ◌||◌, ℕ, ◌+◌, ◌<◌, ◌≤◌, Bool, true, false, List, [], ◌∷◌, ◌-◌, length, drop, get_or, inl, inr, refl, ap, sym, ◌∙◌, arith, add-one}
use Rattle.std.proofs.lemmas.Bool.Decides.{nat_tests, leb_tells}
use Rattle.std.proofs.Math.Seq.{drop-cons, drop-length}
use Rattle.std.proofs.lemmas.List.{drop-drop}
use Rattle.std.proofs.lemmas.List.{length-drop}
use Rattle.pattern_core.proofs.PlaceLemmas.{has_place-nothing}
use Rattle.pattern_core.proofs.LetterLemmas.{length-read_text, get_or-read_text, read_byte-question, drop-read_text}
use Rattle.pattern_core.specs.declared.case.Case.{Case}
use Rattle.pattern_core.specs.Letters.{read_byte, read_text}
use Rattle.pattern_core.specs.Patterns.{question}
use Rattle.pattern_core.specs.Pieces.{fits, has_place}

-- a byte of a piece takes in a byte of a text
abbrev pub takes_in : ℕ → ℕ → Bool
takes_in wanted byte = wanted == question || wanted == byte

-- nothing is wanted behind the piece
pub fits-end : (text piece : List ℕ) (i : ℕ) → i ≡ length piece → fits text (drop i piece) ≡ true
unfolding fits
fits-end text piece i e = rw (e, drop-length piece) refl

-- from two places on, a piece fits where their bytes do and what is behind them
pub fits-step : (text piece : List ℕ) (k i : ℕ) → k < length text → i < length piece
    → fits (drop k text) (drop i piece) ≡ (takes_in (get_or piece i 0) (get_or text k 0) && fits (drop (k + 1) text) (drop (i + 1) piece))
unfolding fits
fits-step text piece k i below within = rw (add-one k, add-one i, drop-cons text k 0 below, drop-cons piece i 0 within) refl

-- a text that is too short
pub fits-short : (text piece : List ℕ) → length text < length piece → fits text piece ≡ false
unfolding fits
fits-short text [] short = absurd (omega arith)
fits-short [] (w ∷ ws) short = refl
fits-short (x ∷ xs) (w ∷ ws) short = let rest = fits-short xs ws (omega arith) in grind (arith, rest)

-- the same of texts as they are read
pub fits-read : (case : Case) (text piece : List ℕ) (k i : ℕ) → k < length text → i < length piece
    → fits (drop k (read_text case text)) (drop i (read_text case piece))
    ≡ ((get_or piece i 0 == question || read_byte case (get_or piece i 0) == read_byte case (get_or text k 0))
    && fits (drop (k + 1) (read_text case text)) (drop (i + 1) (read_text case piece)))
fits-read case text piece k i below within =
    let there : k < length (read_text case text) = omega (arith, length-read_text case text) in
    let wanted : i < length (read_text case piece) = omega (arith, length-read_text case piece) in
    let step = fits-step (read_text case text) (read_text case piece) k i there wanted in
    let one = get_or-read_text case text k in
    let other = get_or-read_text case piece i in
    let any = read_byte-question case (get_or piece i 0) in
    step ∙ rw (other, one, any) refl

-- a byte that isn't taken in
pub takes_none : (b x y : ℕ) (rest : Bool) → b ≢ question → x ≢ y → ((b == question || x == y) && rest) ≡ false
takes_none b x y rest other apart = grind (arith, nat_tests)

-- any byte is
pub takes_any : (b x y : ℕ) (rest : Bool) → b ≡ question → ((b == question || x == y) && rest) ≡ rest
takes_any b x y rest is = grind (arith, nat_tests)

-- the same byte is
pub takes_same : (b x y : ℕ) (rest : Bool) → x ≡ y → ((b == question || x == y) && rest) ≡ rest
takes_same b x y rest is = grind (arith, nat_tests)

-- a place that was left is left where its byte is there
pub takes_there : (b : ℕ) (old same rest : Bool) → b ≢ question → (old && ((b == question || same) && rest)) ≡ ((old && same) && rest)
takes_there b true same rest other = grind (arith, nat_tests)
takes_there b false same rest other = refl

-- what is left of a place by a byte
pub fits-narrowed : (case : Case) (text piece : List ℕ) (i k next : ℕ) (whole old there : Bool)
    → i + k < length text → i < length piece → next ≡ i + k + 1 → get_or piece i 0 ≢ question
    → whole ≡ (old && fits (drop (i + k) (read_text case text)) (drop i (read_text case piece)))
    → there ≡ (read_byte case (get_or piece i 0) == read_byte case (get_or text (i + k) 0))
    → whole ≡ ((old && there) && fits (drop next (read_text case text)) (drop (i + 1) (read_text case piece)))
fits-narrowed case text piece i k next whole old there below within e other is same =
    let step = fits-read case text piece (i + k) i below within in
    let rest = takes_there (get_or piece i 0) old there (fits (drop (i + k + 1) (read_text case text)) (drop (i + 1) (read_text case piece))) other in
    cc

-- what is left of it by a `?`
pub fits-kept : (case : Case) (text piece : List ℕ) (i k next : ℕ) (whole old : Bool)
    → i + k < length text → i < length piece → next ≡ i + k + 1 → get_or piece i 0 ≡ question
    → whole ≡ (old && fits (drop (i + k) (read_text case text)) (drop i (read_text case piece)))
    → whole ≡ (old && fits (drop next (read_text case text)) (drop (i + 1) (read_text case piece)))
fits-kept case text piece i k next whole old below within e any is =
    let step = fits-read case text piece (i + k) i below within in
    let rest = takes_any (get_or piece i 0) (read_byte case (get_or piece i 0)) (read_byte case (get_or text (i + k) 0))
    (fits (drop (i + k + 1) (read_text case text)) (drop (i + 1) (read_text case piece))) any in
    cc

-- a place of what is behind some bytes
pub fits-behind : (case : Case) (text piece : List ℕ) (start k : ℕ)
    → fits (drop k (read_text case (drop start text))) piece ≡ fits (drop (start + k) (read_text case text)) piece
fits-behind case text piece start k =
    ap (λ t. fits t piece) (ap (drop k) (sym (drop-read_text case start text)) ∙ drop-drop k start (read_text case text))

-- nothing is left but what is true
pub and-true : (old rest : Bool) → rest ≡ true → (old && rest) ≡ old
and-true true rest h = h
and-true false rest h = refl

-- the places of the 64 behind `start` at which the piece fits, as far as the text goes
pub record IsBlock (case : Case) (text piece : List ℕ) (start places : ℕ) : Type 0 where
  pub exact : (k : ℕ) → k < 64 → start + k + length piece ≤ length text
      → has_place places k ≡ fits (drop (start + k) (read_text case text)) (read_text case piece)

-- they are those of what is behind `start`
pub IsBlock-behind : (case : Case) (text piece rest : List ℕ) (start places : ℕ) → rest ≡ drop start text → start ≤ length text
    → ((k : ℕ) → k < 64 → k + length piece ≤ length rest
    → has_place places k ≡ fits (drop k (read_text case rest)) (read_text case piece))
    → IsBlock case text piece start places
IsBlock-behind case text piece rest start places e low exact = record {
  exact = λ k below within.
      exact k below (omega (arith, within, low, ap length e, length-drop start text))
      ∙ ap (λ t. fits (drop k (read_text case t)) (read_text case piece)) e
      ∙ fits-behind case text (read_text case piece) start k;
}

-- at a place of the block, the piece fits where the block has the place
pub IsBlock-place : (case : Case) (text piece : List ℕ) (start places : ℕ) → IsBlock case text piece start places
    → (k : ℕ) → start ≤ k → k < start + 64 → k + length piece ≤ length text
    → fits (drop k (read_text case text)) (read_text case piece) ≡ has_place places (k - start)
IsBlock-place case text piece start places is k low high within =
    let e : k ≡ start + (k - start) = omega arith in
    ap (λ n. fits (drop n (read_text case text)) (read_text case piece)) e
    ∙ sym (is.exact (k - start) (omega arith) (omega arith))

-- in a block without places, and before it, the piece fits nowhere
pub IsBlock-nothing : (case : Case) (text piece : List ℕ) (start places : ℕ) → IsBlock case text piece start places → places ≡ 0
    → ((k : ℕ) → k < start → k + length piece ≤ length text → fits (drop k (read_text case text)) (read_text case piece) ≡ false)
    → (k : ℕ) → k < start + 64 → k + length piece ≤ length text → fits (drop k (read_text case text)) (read_text case piece) ≡ false
IsBlock-nothing case text piece start places is none before k high within = elim (leb_tells start k) [
  | inl h ↦ IsBlock-place case text piece start places is k h.1 high within
      ∙ ap (λ p. has_place p (k - start)) none ∙ has_place-nothing (k - start)
  | inr h ↦ before k h.1 within
]
