-- A run that is fed with pieces of its schedule, and writes what it prints (ours).
use Rattle.std.specs.Prelude.{◌≡◌, ℕ, Bool, List, [], ◌++◌, ◌+◌, length, Option, Some, None}
use Rattle.std.specs.Io.KnownBytes.{Appends}
use Rattle.world_ports.specs.Causes.{Rose}
use Rattle.world_ports.specs.Streams.{StreamView}
use Rattle.agent_model.specs.State.{Settings}
use Rattle.schedule_text.specs.declared.fault.LineFault.{LineFault}
use Rattle.replay_run.specs.declared.run_end.RunEnd.{RunEnd}
use Rattle.replay_run.specs.declared.run_end.RunEnd.TheVariants.{Done, Refused, Memory, ReadFault, WriteFault}
use Rattle.replay_run.specs.Claims.{IsFront}
use Rattle.replay_run.specs.Replay.{Run, start_run, parts_of, printed}
use Rattle.replay_run.specs.Counts.{IsCounted}
use Rattle.replay_run.specs.GoesOn.{IsBegun, GoesOn}

-- the run, the front of the line that waits for its LF, and what was printed and isn't written yet
pub record Feeding : Type 0 where
  pub run : Run
  pub pending : List ℕ
  pub out : List ℕ

-- nothing was fed yet
abbrev pub start_feeding : Settings → Feeding
start_feeding settings = record { run = start_run settings; pending = []; out = [] }

-- no line was refused, and the one that waits may still be run
pub record IsReady (feeding : Feeding) : Type 0 where
  pub counted : IsCounted feeding.run
  pub begun : IsBegun feeding.run feeding.pending

-- all of this text was written, and no write failed
pub record Wrote (before after : StreamView) (text : List ℕ) : Type 0 where
  pub written : Appends before.written after.written text
  pub kept : after.write_faults ≡ before.write_faults

-- these bytes were fed: what was written since, and how the run goes on from there
pub record Feeds
    (old : Feeding) (bytes : List ℕ) (new : Feeding) (before after : StreamView) : Type 0 where
  pub text : List ℕ
  pub wrote : Wrote before after text
  pub goes : GoesOn old.out old.run (old.pending ++ bytes) (text ++ new.out) new.run new.pending

-- how many bytes of the schedule were fed
abbrev pub fed_so_far : Feeding → ℕ
fed_so_far feeding = feeding.run.read + length feeding.pending

-- a run that was ready was fed these bytes, and is ready for more
pub record GoesOnFed
    (old : Feeding) (bytes : List ℕ) (new : Feeding) (before after : StreamView) : Type 0 where
  pub accepted : old.run.refused ≡ None
  pub feeds : Feeds old bytes new before after
  pub ready : IsReady new
  pub size : fed_so_far new ≡ fed_so_far old + length bytes

-- what was written is a front of what the run prints, whatever follows these bytes
pub record WritesFront
    (old : Feeding) (bytes : List ℕ) (before after : StreamView) : Type 0 where
  pub text : List ℕ
  pub wrote : Appends before.written after.written text
  pub front : (ended : Bool) (more : List ℕ) →
      IsFront text (old.out ++ printed ended old.run (parts_of ((old.pending ++ bytes) ++ more)))

-- a line was refused, which left this run, and all that it prints is written
pub record WritesRefusal
    (old : Feeding) (bytes : List ℕ) (line : ℕ) (fault : LineFault) (run : Run) (before after : StreamView)
    : Type 0 where
  pub text : List ℕ
  pub wrote : Wrote before after text
  pub goes : GoesOn old.out old.run (old.pending ++ bytes) text run []
  pub refused : run.refused ≡ Some fault
  pub number : run.line ≡ line

-- what was written is a front of what the run prints, since a write failed
pub record WritesUntilFault
    (old : Feeding) (bytes : List ℕ) (before after : StreamView) : Type 0 where
  pub front : WritesFront old bytes before after
  pub cause : Rose before.write_faults after.write_faults

-- why the run ended while these bytes were fed, and which run it left
abbrev pub Halts : RunEnd → Feeding → List ℕ → Run → StreamView → StreamView → Type 0
Halts Done old bytes run before after = ⊥
Halts (Refused line fault) old bytes run before after = WritesRefusal old bytes line fault run before after
Halts Memory old bytes run before after = WritesFront old bytes before after
Halts ReadFault old bytes run before after = ⊥
Halts WriteFault old bytes run before after = WritesUntilFault old bytes before after

-- the front of a piece was fed, and this is left of it
pub record FedSoFar
    (old : Feeding) (piece rest : List ℕ) (new : Feeding) (before after : StreamView) : Type 0 where
  pub front : List ℕ
  pub is : front ++ rest ≡ piece
  pub fed : GoesOnFed old front new before after
