-- A log that is written as its record is read (ours).
use Rattle.std.specs.Prelude.{◌≡◌, ◌<◌, ◌≤◌, ◌+◌, ℕ, Bool, List, [], ◌∷◌, ◌++◌, length, Option, Result}
use Rattle.std.specs.List.{flat_map}
use Rattle.audit_core.specs.Writing.{Writes}
use Rattle.audit_core.specs.declared.writing.Stop.{Stop}
use Rattle.log_book.specs.Books.{Book, new_book, see_all}
use Rattle.log_book.specs.declared.sight.Sight.{Sight}
use Rattle.log_book.specs.declared.told.Told.{Told as Request}
use Rattle.log_core.specs.Lines.{whole_lines}
use Rattle.log_core.specs.Logs.{lines_of, sights_in}
use Rattle.log_core.specs.Program.{Says, status_by}
use Rattle.log_core.specs.declared.status.LogStatus.{LogStatus}
use Rattle.log_core.specs.declared.status.LogStatus.TheVariants as status
use Rattle.replay_run.specs.Claims.{HasRead, Seen}
use Rattle.replay_run.specs.Counts.{IsCounted}
use Rattle.replay_run.specs.Feeding.{Wrote}
use Rattle.replay_run.specs.GoesOn.{IsBegun}
use Rattle.replay_run.specs.Replay.{Run, course, longest_schedule, parts_of, start_run, then_turned, whole_turned}
use Rattle.replay_run.specs.Told.{Told}
use Rattle.world_ports.specs.Streams.{StreamView}
use Rattle.agent_model.specs.State.{Settings}

-- the run of the whole lines so far, the front of the line that waits for its LF, what was seen and isn't told yet, and
-- what is kept of clients and keys
pub record Logging : Type 0 where
  pub run : Run
  pub pending : List ℕ
  pub sights : List Sight
  pub book : Book

-- nothing was read yet
abbrev pub start_logging : Settings → Logging
start_logging settings = record { run = start_run settings; pending = []; sights = []; book = new_book }

-- no line was refused, the one that waits may still be run, and what was seen is told
pub record IsReady (log : Logging) : Type 0 where
  pub counted : IsCounted log.run
  pub begun : IsBegun log.run log.pending
  pub told : log.sights ≡ []

-- how many bytes of the record were read
abbrev pub read_so_far : Logging → ℕ
read_so_far log = log.run.read + length log.pending

-- ---- steps

-- what is said of a record that ends here, by the line that isn't whole
abbrev pub end_of : List ℕ → LogStatus
end_of [] = status.Whole
end_of (byte ∷ bytes) = status.Waits

-- the line that ends with these bytes was run
pub record EndsLine (old : Logging) (line : List ℕ) (new : Logging) : Type 0 where
  pub run : new.run ≡ (whole_turned (old.pending ++ line) old.run).run
  pub sights : new.sights ≡ flat_map sights_in (whole_turned (old.pending ++ line) old.run).told
  pub pending : new.pending ≡ []
  pub book : new.book ≡ old.book

-- the log ends with this text, or for want of memory or by a failed write before that
pub record EndsWith (ended result : LogStatus) (text : List ℕ) (before after : StreamView) : Type 0 where
  pub done : Result (Unit {0}) Stop
  pub is : result ≡ status_by ended done
  pub writes : Writes done text before after

-- ---- from the start on

-- these bytes of a record led there, and the lines of the requests whose fate was told are written
pub record IsLogging (settings : Settings) (bytes : List ℕ) (start now : StreamView) (log : Logging) : Type 0 where
  -- the bytes are whole lines, and the front of one
  pub lines : List ℕ
  pub is : lines ++ log.pending ≡ bytes
  pub whole : (more : List ℕ) → whole_lines (lines ++ more) ≡ lines ++ whole_lines more
  -- the run of these lines goes on from there, whatever follows
  pub told : List Told
  pub goes : (ended : Bool) (more : List ℕ) → course ended (start_run settings) (parts_of (lines ++ more))
      ≡ then_turned (record { run = log.run; told = told }) (course ended log.run (parts_of more))
  -- what is seen of them was told, or still is to be
  pub seen : List Sight
  pub sights : flat_map sights_in told ≡ seen ++ log.sights
  pub requests : List Request
  pub booked : see_all seen new_book ≡ record { book = log.book; told = requests }
  pub wrote : Wrote start now (lines_of requests)

-- it holds whatever follows these bytes
abbrev pub Following : List ℕ → (List ℕ → Type 0) → Type 0
Following bytes P = (more : List ℕ) → P (bytes ++ more)

-- it holds of these bytes
abbrev pub Exactly : List ℕ → (List ℕ → Type 0) → Type 0
Exactly bytes P = P bytes

-- why the log ended before its record did
abbrev pub Halts : LogStatus → Settings → List ℕ → StreamView → StreamView → Type 0
Halts status.Whole settings bytes start now = ⊥
Halts status.Waits settings bytes start now = ⊥
Halts status.Usage settings bytes start now = ⊥
Halts status.ReadFault settings bytes start now = ⊥
Halts (status.BadRecord line) settings bytes start now = Says (Following bytes) (status.BadRecord line) settings start now
Halts status.Memory settings bytes start now = Says (Following bytes) status.Memory settings start now
Halts status.WriteFault settings bytes start now = Says (Following bytes) status.WriteFault settings start now

-- ---- pieces

-- the front of a piece was read, and this is left of it
pub record LoggedSoFar (old : Logging) (piece rest : List ℕ) (new : Logging) (before after : StreamView) : Type 0 where
  pub front : List ℕ
  pub is : front ++ rest ≡ piece
  pub goes : (settings : Settings) (bytes : List ℕ) (start : StreamView) → IsLogging settings bytes start before old
      → IsLogging settings (bytes ++ front) start after new
  pub size : read_so_far new ≡ read_so_far old + length front

-- ---- reads

-- a log that goes on: these bytes were read, and the lines of the requests whose fate they tell are written
pub record IsUnderWay (settings : Settings) (old new : Seen) (log : Logging) : Type 0 where
  pub bytes : List ℕ
  pub read : HasRead old new bytes
  pub logging : IsLogging settings bytes old.output new.output log
  pub ready : IsReady log
  pub reads : new.input.read_faults ≡ old.input.read_faults

-- more of the record was read, and no more than it may have
pub record IsLonger (old new : Logging) : Type 0 where
  pub more : read_so_far old < read_so_far new
  pub within : read_so_far new ≤ longest_schedule
