-- A record that is run line by line, and texts that are compared piece by piece (ours).
use Rattle.std.specs.Prelude.{◌≡◌, ◌<◌, ◌≤◌, ℕ, suc, ◌==◌, true, List, [], ◌∷◌, ◌++◌, drop, length, Option, None, Some, if◌then◌else◌}
use Rattle.std.specs.List.{flat_map}
use Rattle.schedule_text.specs.declared.fault.LineFault.{LineFault}
use Rattle.audit_core.specs.Reports.{Agrees, Differs, IsBad, Verdict}
use Rattle.audit_core.specs.declared.comparison.Finding.{Finding}
use Rattle.audit_core.specs.declared.comparison.Matching.{Matching}
use Rattle.audit_core.specs.declared.comparison.Finding.TheVariants as findings
use Rattle.replay_run.specs.Counts.{IsCounted}
use Rattle.replay_run.specs.Replay.{Run, course, parts_of, then_turned}
use Rattle.replay_run.specs.Told.{Told}

-- ---- a record, line by line

-- a line of so many bytes was run, which told this, and the rest goes on from there
pub record TurnsOn (run : Run) (left : List ℕ) (new : Run) (size : ℕ) (told : List Told) : Type 0 where
  pub some : 0 < size
  pub within : size ≤ length left
  pub turned : course true run (parts_of left)
      ≡ then_turned (record { run = new; told = told }) (course true new (parts_of (drop size left)))
  pub counted : IsCounted new

-- the last line was run, or one that is refused, which is the end; else the rest goes on
abbrev pub Turns : Option ℕ → Run → List ℕ → Run → List Told → Type 0
Turns None run left new told = course true run (parts_of left) ≡ record { run = new; told = told }
Turns (Some size) run left new told = TurnsOn run left new size told

-- and this was noted of what it told
pub record Notes (N : Type 0) (notes_of : Told → List N) (size : Option ℕ) (run : Run) (left : List ℕ) (new : Run)
    (before after : List N) : Type 0 where
  pub told : List Told
  pub turns : Turns size run left new told
  pub noted : after ≡ before ++ flat_map notes_of told

-- ---- texts

-- the line of the first difference, the first line having this number
abbrev pub mismatch : ℕ → List ℕ → List ℕ → Option ℕ
mismatch line [] [] = None
mismatch line [] (byte ∷ bytes) = Some line
mismatch line (byte ∷ bytes) [] = Some line
mismatch line (byte ∷ bytes) (other ∷ others) =
    if byte == other then mismatch (if byte == 10 then suc line else line) bytes others else Some line

-- the first difference from there on, with this still to come
abbrev pub difference : Matching → List ℕ → List ℕ → Option ℕ
difference matching more all =
    if matching.differs then Some matching.line else mismatch matching.line more (drop matching.at all)

-- ---- findings

-- a verdict without what was put
abbrev pub finding_of : Verdict → Finding
finding_of (Agrees puts) = findings.Agrees
finding_of (Differs line) = findings.Differs line
finding_of (IsBad line) = findings.IsBad line

-- by the run of the record, and the first difference
abbrev pub finding_by : Option LineFault → Option ℕ → ℕ → Finding
finding_by (Some fault) difference line = findings.IsBad line
finding_by None (Some difference) line = findings.Differs difference
finding_by None None line = findings.Agrees
