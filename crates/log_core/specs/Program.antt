-- What the program does (ours): `Logs`, a line a status. The file is read from its end; a record's log is in
-- specs/Logs.antt.
use Rattle.std.specs.Prelude.{◌≡◌, ◌==◌, ℕ, Bool, true, false, List, Option, Some, None, Result, Ok, Err, length}
use Rattle.std.specs.Io.KnownBytes.{Appends, IsAtEnd}
use Rattle.audit_core.specs.declared.writing.Stop.{Stop}
use Rattle.audit_core.specs.declared.writing.Stop.TheVariants as stops
use Rattle.log_core.specs.Lines.{whole_lines}
use Rattle.log_core.specs.Logs.{log_of, log_so_far}
use Rattle.log_core.specs.declared.status.LogStatus.{LogStatus}
use Rattle.log_core.specs.declared.status.LogStatus.TheVariants as status
use Rattle.replay_run.specs.Claims.{HasRead, HoldsOfInput, IsFront, Seen}
use Rattle.replay_run.specs.Feeding.{Wrote}
use Rattle.replay_run.specs.Replay.{Run, parts_of, ran, start_run}
use Rattle.schedule_text.specs.declared.fault.LineFault.{LineFault}
use Rattle.world_ports.specs.Causes.{Rose}
use Rattle.world_ports.specs.Streams.{StreamView}
use Rattle.agent_model.specs.State.{Settings}

-- ---- statuses

-- the exit status
abbrev pub code_of : LogStatus → ℕ
code_of status.Whole = 0
code_of status.Waits = 0
code_of status.Usage = 2
code_of status.ReadFault = 3
code_of (status.BadRecord line) = 4
code_of status.Memory = 5
code_of status.WriteFault = 6

-- by the refusal of a line, that line's number, and whether nothing stands behind the last whole line
abbrev pub ended_by : Option LineFault → ℕ → Bool → LogStatus
ended_by (Some fault) line whole = status.BadRecord line
ended_by None line true = status.Whole
ended_by None line false = status.Waits

-- by the run of the whole lines of a text
abbrev pub ended_in : Run → List ℕ → LogStatus
ended_in run text = ended_by run.refused run.line (length (whole_lines text) == length text)

-- what is said of a record: a line that isn't whole is refused as soon as it is too long, however it goes on
abbrev pub ended_of : Settings → List ℕ → LogStatus
ended_of settings text = ended_in (ran false (start_run settings) (parts_of text)) text

-- by why not all was written
abbrev pub status_at : Stop → LogStatus
status_at stops.Memory = status.Memory
status_at stops.Write = status.WriteFault

-- by that, or by what is said of a record
abbrev pub status_by : {T : Type 0} → LogStatus → Result T Stop → LogStatus
status_by ended (Ok done) = ended
status_by ended (Err stop) = status_at stop

-- ---- what is said of a record: `Of P` says that P holds of it

-- this is said of the record, and this is its log
pub record IsLogged (ended : LogStatus) (settings : Settings) (log text : List ℕ) : Type 0 where
  pub ended_is : ended_of settings text ≡ ended
  pub log_is : log_of settings text ≡ log

-- all of its log was written
pub record SaysAll (Of : (List ℕ → Type 0) → Type 0) (ended : LogStatus) (settings : Settings)
    (before after : StreamView) : Type 0 where
  pub log : List ℕ
  pub wrote : Wrote before after log
  pub is : Of (IsLogged ended settings log)

-- a front of its log was written
pub record SaysFront (Of : (List ℕ → Type 0) → Type 0) (settings : Settings) (before after : StreamView) : Type 0 where
  pub log : List ℕ
  pub wrote : Appends before.written after.written log
  pub is : Of (λ text. IsFront log (log_of settings text))

-- the same, and a write failed
pub record SaysFault (Of : (List ℕ → Type 0) → Type 0) (settings : Settings) (before after : StreamView) : Type 0 where
  pub front : SaysFront Of settings before after
  pub cause : Rose before.write_faults after.write_faults

-- what the end of a log says of its record and of the sink, where no read failed
abbrev pub Says : ((List ℕ → Type 0) → Type 0) → LogStatus → Settings → StreamView → StreamView → Type 0
Says Of status.Whole settings before after = SaysAll Of status.Whole settings before after
Says Of status.Waits settings before after = SaysAll Of status.Waits settings before after
Says Of status.Usage settings before after = ⊥
Says Of status.ReadFault settings before after = ⊥
Says Of (status.BadRecord line) settings before after = SaysAll Of (status.BadRecord line) settings before after
-- want of memory says nothing of the record
Says Of status.Memory settings before after = SaysFront Of settings before after
Says Of status.WriteFault settings before after = SaysFault Of settings before after

-- ---- the input

-- what was read is a record's front, and this is said of it and of the whole input, where that is told
pub record HasLogged (settings : Settings) (ended : LogStatus) (old new : Seen) : Type 0 where
  pub bytes : List ℕ
  pub read : HasRead old new bytes
  pub reads : new.input.read_faults ≡ old.input.read_faults
  pub says : Says (HoldsOfInput new.input.left bytes) ended settings old.output new.output

-- the same, and the input was read to its end
pub record HasLoggedAll (settings : Settings) (ended : LogStatus) (old new : Seen) : Type 0 where
  pub logged : HasLogged settings ended old new
  pub end : IsAtEnd new.input.left

-- a read failed, and the lines of the requests whose fate the whole lines before tell are written
pub record EndsAtReadFault (settings : Settings) (old new : Seen) : Type 0 where
  pub bytes : List ℕ
  pub read : HasRead old new bytes
  pub wrote : Wrote old.output new.output (log_so_far settings bytes)
  pub cause : Rose old.input.read_faults new.input.read_faults

-- by how the program ended, where its words ask for a log
abbrev pub Logs : Settings → LogStatus → Seen → Seen → Type 0
Logs settings status.Whole old new = HasLoggedAll settings status.Whole old new
Logs settings status.Waits old new = HasLoggedAll settings status.Waits old new
Logs settings status.Usage old new = ⊥
Logs settings status.ReadFault old new = EndsAtReadFault settings old new
Logs settings (status.BadRecord line) old new = HasLogged settings (status.BadRecord line) old new
Logs settings status.Memory old new = HasLogged settings status.Memory old new
Logs settings status.WriteFault old new = HasLogged settings status.WriteFault old new
