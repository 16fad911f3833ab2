-- The whole lines of a text, by what stands at its front.
use Rattle.std.proofs.Common.{◌≡◌, ◌==◌, ◌<◌, ℕ, List, [], ◌∷◌, ◌++◌, refl, ap, sym, ◌∙◌, arith, true, false, if◌then◌else◌, length, length-append}
use Rattle.std.proofs.lemmas.Bool.Decides.{nat_tests}
use Rattle.std.proofs.lemmas.List.{append-nil}
use Rattle.log_core.specs.Lines.{lines_with, whole_lines}
use Rattle.replay_run.specs.GoesOn.{HasNoLf, is_lf}

-- ---- a line with its LF

-- an LF is whole, whatever stands behind it
with-lf : (more : List ℕ) → lines_with 10 more ≡ 10 ∷ more
with-lf [] = refl
with-lf (byte ∷ more) = refl

with-line : (byte : ℕ) (line more : List ℕ) → lines_with byte (line ++ 10 ∷ more) ≡ byte ∷ (line ++ 10 ∷ more)
with-line byte [] more = refl
with-line byte (next ∷ line) more = refl

-- a text up to an LF is whole, and what is whole of the rest stands behind it
pub whole-line : (text more : List ℕ) → whole_lines (text ++ 10 ∷ more) ≡ text ++ 10 ∷ whole_lines more
whole-line [] more = with-lf (whole_lines more)
whole-line (byte ∷ text) more = ap (lines_with byte) (whole-line text more) ∙ with-line byte text (whole_lines more)

-- ---- the front of a line

-- a front, and what is whole behind it: nothing is where that is nothing
abbrev pub behind : List ℕ → List ℕ → List ℕ
behind front [] = []
behind front (byte ∷ more) = front ++ byte ∷ more

behind-nothing : (more : List ℕ) → more ≡ behind [] more
behind-nothing [] = refl
behind-nothing (byte ∷ more) = refl

with-behind : (byte : ℕ) (front more : List ℕ) → is_lf byte ≡ false → lines_with byte (behind front more) ≡ behind (byte ∷ front) more
with-behind byte front [] differs = ap (λ test. if test then byte ∷ [] else []) differs
with-behind byte [] (next ∷ more) differs = refl
with-behind byte (other ∷ front) (next ∷ more) differs = refl

-- bytes without LF are whole as far as an LF stands behind them
pub whole-front : (front more : List ℕ) → HasNoLf front → whole_lines (front ++ more) ≡ behind front (whole_lines more)
whole-front [] more part = behind-nothing (whole_lines more)
whole-front (byte ∷ front) more part = ap (lines_with byte) (whole-front front more part.1) ∙ with-behind byte front (whole_lines more) part.0

-- alone they aren't
pub whole-none : (front : List ℕ) → HasNoLf front → whole_lines front ≡ []
whole-none front part = ap whole_lines (sym (append-nil front)) ∙ whole-front front [] part

-- ---- whether all is whole

pub all-whole : (lines front : List ℕ) → front ≡ [] → (length lines == length (lines ++ front)) ≡ true
all-whole lines front none =
    let same : length (lines ++ front) ≡ length lines = ap (λ (f : List ℕ). length (lines ++ f)) none ∙ ap (λ (l : List ℕ). length l) (append-nil lines) in
    grind (arith, nat_tests, same)

pub some-waits : (lines front : List ℕ) → 0 < length front → (length lines == length (lines ++ front)) ≡ false
some-waits lines front some = grind (arith, nat_tests, some, length-append lines front)
