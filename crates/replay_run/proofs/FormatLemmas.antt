-- Which line names a format, and that a run behind a line isn't at line 1.
use Rattle.std.proofs.Common.{◌≡◌, ℕ, ◌+◌, ◌≤◌, ◌==◌, ◌&&◌, nat_lt, if◌then◌else◌, Bool, true, false, List, length, refl, ap, sym, ◌∙◌, arith, Option, None, Some, Result, Ok, Err}
use Rattle.std.proofs.lemmas.Bool.Decides.{nat_tests}
use Rattle.schedule_text.specs.declared.fault.LineFault.{LineFault}
use Rattle.schedule_text.specs.declared.fault.LineFault.TheVariants.{TooLong}
use Rattle.schedule_text.specs.declared.step.Step.{Step}
use Rattle.schedule_text.specs.declared.step.Step.TheVariants.{Skip, Format2, At, Join, Hear, End, Hold, Free, Take, Started, Failed}
use Rattle.schedule_text.specs.Lines.{step_of}
use Rattle.schedule_text.proofs.Theorems.{step_of-long}
use Rattle.replay_run.specs.Formats.{names_format}
use Rattle.replay_run.specs.Replay.{Brought, Brings, Refuses, Run, brought_turned, line_brings, step_at, turned, turned_by}

-- ---- which line it is

pub is_the_format : (step : Step) → names_format (Ok step) ≡ true → step ≡ Format2
is_the_format Skip is = absurd cc
is_the_format Format2 is = refl
is_the_format (At moment) is = absurd cc
is_the_format (Join door) is = absurd cc
is_the_format (Hear port bytes) is = absurd cc
is_the_format (End port) is = absurd cc
is_the_format (Hold port) is = absurd cc
is_the_format (Free port) is = absurd cc
is_the_format (Take port count) is = absurd cc
is_the_format (Started job ticket) is = absurd cc
is_the_format (Failed job) is = absurd cc

pub names_the_format : (read : Result Step LineFault) → names_format read ≡ true → read ≡ Ok Format2
names_the_format (Ok step) is = ap (λ (s : Step). Ok s) (is_the_format step is)
names_the_format (Err fault) is = absurd cc

-- a line that asks for a step isn't too long
pub asked_is_short : (line : List ℕ) (step : Step) → step_of line ≡ Ok step → length line ≤ 65536
asked_is_short line step asked = by_test (nat_lt 65536 (length line)) refl
  where
    by_test : (long : Bool) → nat_lt 65536 (length line) ≡ long → length line ≤ 65536
    by_test true is =
        let no : Ok step ≡ Err TooLong = sym asked ∙ step_of-long line (grind (arith, nat_tests)) in absurd cc
    by_test false is = grind (arith, nat_tests)

-- ---- behind line 1

-- a run that goes on isn't at line 1
abbrev pub HasBegun : Run → Type 0
HasBegun run = run.refused ≡ None → (run.line == 0) ≡ false

begun-brought : (brought : Brought) (size : ℕ) (run : Run)
    → HasBegun (brought_turned brought size run).run
begun-brought (Brings found events) size run accepted = grind (arith, nat_tests)
begun-brought (Refuses fault) size run accepted = absurd cc

begun-by : (refused : Option LineFault) (line : List ℕ) (size : ℕ) (run : Run)
    → run.refused ≡ refused →
    HasBegun (turned_by refused line size run).run
begun-by None line size run is =
    begun-brought (line_brings (step_at (run.read + size) line) run) size run
begun-by (Some fault) line size run is = λ accepted.
    let no : Some fault ≡ None = sym is ∙ accepted in absurd cc

-- a run behind a line has begun
pub begun-turned : (line : List ℕ) (size : ℕ) (run : Run) → HasBegun (turned line size run).run
unfolding turned
begun-turned line size run = begun-by run.refused line size run refl

-- ---- the line isn't one that begins a schedule of format 2

abbrev pub IsPlain : List ℕ → Run → Type 0
IsPlain line run = run.refused ≡ None → (names_format (step_of line) && (run.line == 0)) ≡ false

and_false : (test : Bool) → (test && false) ≡ false
and_false true = refl
and_false false = refl

pub plain_later : (line : List ℕ) (run : Run) → HasBegun run → IsPlain line run
plain_later line run begun accepted =
    ap (λ test. names_format (step_of line) && test) (begun accepted) ∙ and_false (names_format (step_of line))

-- also where the schedule is too long at its end
pub plain_at : (late : Bool) (line : List ℕ) (first : Bool)
    → (names_format (step_of line) && first) ≡ false →
    (names_format (if late then Err TooLong else step_of line) && first) ≡ false
plain_at true line first plain = refl
plain_at false line first plain = plain
