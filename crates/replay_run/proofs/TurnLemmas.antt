-- What a line brings, by what was read in it.
use Rattle.std.proofs.Common.{◌≡◌, ◌≢◌, ℕ, ◌+◌, ◌≤◌, inl, inr, List, ◌++◌, OnOk, Result, Ok, Err, None}
use Rattle.std.specs.List.{flat_map}
use Rattle.std.specs.declared.alloc.AllocError.{AllocError}
use Rattle.schedule_text.specs.declared.fault.LineFault.{LineFault}
use Rattle.schedule_text.specs.declared.fault.LineFault.TheVariants.{Memory}
use Rattle.schedule_text.specs.Lines.{step_of, IsFaultOf}
use Rattle.replay_run.specs.Replay.{Run, refuse, turned, longest_schedule}
use Rattle.replay_run.specs.Told.{Told}
use Rattle.replay_run.proofs.RunLemmas.{turned-fault}

-- a fault that isn't want of memory is the line's
pub fault_is : (line : List ℕ) (fault : LineFault) → IsFaultOf (step_of line) fault → fault ≢ Memory
    → step_of line ≡ Err fault
fault_is line fault (inl memory) other = absurd (other memory)
fault_is line fault (inr is) other = is

-- the run after a line that is refused for its fault
pub fault_run : (line : List ℕ) (size : ℕ) (run : Run) (fault : LineFault) (result : Result (Unit {0}) AllocError) (after : Run)
    → run.refused ≡ None → run.read + size ≤ longest_schedule → IsFaultOf (step_of line) fault
    → OnOk result (fault ≢ Memory) → OnOk result (after ≡ (refuse fault run).run)
    → OnOk result (after ≡ (turned line size run).run)
fault_run line size run fault (Ok done) after accepted within exact other is =
    rw (turned-fault line size run fault accepted within (fault_is line fault exact other)) is
fault_run line size run fault (Err memory) after accepted within exact other is = tt

-- and what is noted of it
pub fault_notes : {N : Type 0} (notes_of : Told → List N) (line : List ℕ) (size : ℕ) (run : Run) (fault : LineFault) (result : Result (Unit {0}) AllocError) (before after : List N)
    → run.refused ≡ None → run.read + size ≤ longest_schedule → IsFaultOf (step_of line) fault
    → OnOk result (fault ≢ Memory)
    → OnOk result (after ≡ before ++ flat_map notes_of (refuse fault run).told)
    → OnOk result (after ≡ before ++ flat_map notes_of (turned line size run).told)
fault_notes notes_of line size run fault (Ok done) before after accepted within exact other is =
    rw (turned-fault line size run fault accepted within (fault_is line fault exact other)) is
fault_notes notes_of line size run fault (Err memory) before after accepted within exact other is =
    tt
