-- How the run of a schedule may end, a record an end (ours), with the settings that were chosen for it.
-- The file is read from its end, `Ends` and `HandsBack`. What a schedule prints, `output_of`, is in
-- specs/Replay.antt.
use Rattle.std.specs.Prelude.{◌≡◌, ℕ, false, List, ◌++◌, Option, None, Some, IfSome}
use Rattle.std.specs.Io.KnownBytes.{Appends, Consumes, IsAtEnd}
use Rattle.world_ports.specs.Causes.{Rose}
use Rattle.world_ports.specs.Streams.{StreamView}
use Rattle.agent_model.specs.State.{Settings, State}
use Rattle.schedule_text.specs.declared.fault.LineFault.{LineFault}
use Rattle.replay_run.specs.declared.run_end.RunEnd.{RunEnd}
use Rattle.replay_run.specs.declared.run_end.RunEnd.TheVariants.{Done, Refused, Memory, ReadFault, WriteFault}
use Rattle.replay_run.specs.Replay.{start_run, parts_of, ran, output_of, run_of, output_so_far}

-- what the source and the sink tell at one time
pub record Seen : Type 0 where
  pub input : StreamView
  pub output : StreamView

-- these bytes were read
pub record HasRead (old new : Seen) (bytes : List ℕ) : Type 0 where
  pub taken : Appends old.input.taken new.input.taken bytes
  pub left : Consumes old.input.left new.input.left bytes

-- it holds of what was read, and of the whole input, where that is told
pub record HoldsOfInput (left : Option (List ℕ)) (bytes : List ℕ) (P : List ℕ → Type 0) : Type 0 where
  pub read : P bytes
  pub whole : IfSome left (λ rest. P (bytes ++ rest))

-- a schedule is refused at this line, and this is all that it prints
pub record IsRefused (settings : Settings) (line : ℕ) (fault : LineFault) (text schedule : List ℕ) : Type 0 where
  pub output : output_of settings schedule ≡ text
  pub refused : (run_of settings schedule).refused ≡ Some fault
  pub number : (run_of settings schedule).line ≡ line

-- a text stands at the front of another
pub record IsFront (text all : List ℕ) : Type 0 where
  pub more : List ℕ
  pub is : text ++ more ≡ all

-- the input was read to its end, no line of it is refused, all that it prints is written, and no read and no write failed
pub record EndsDone (settings : Settings) (old new : Seen) : Type 0 where
  pub bytes : List ℕ
  pub read : HasRead old new bytes
  pub end : IsAtEnd new.input.left
  pub wrote : Appends old.output.written new.output.written (output_of settings bytes)
  pub accepted : (run_of settings bytes).refused ≡ None
  pub reads : new.input.read_faults ≡ old.input.read_faults
  pub writes : new.output.write_faults ≡ old.output.write_faults

-- the input's first refused line is this one, all that it prints is written, and no read and no write failed
pub record EndsRefused (settings : Settings) (line : ℕ) (fault : LineFault) (old new : Seen) : Type 0 where
  pub bytes : List ℕ
  pub read : HasRead old new bytes
  pub text : List ℕ
  pub wrote : Appends old.output.written new.output.written text
  pub refused : HoldsOfInput new.input.left bytes (IsRefused settings line fault text)
  pub reads : new.input.read_faults ≡ old.input.read_faults
  pub writes : new.output.write_faults ≡ old.output.write_faults

-- what is written is a front of what the input prints
pub record EndsEarly (settings : Settings) (old new : Seen) : Type 0 where
  pub bytes : List ℕ
  pub read : HasRead old new bytes
  pub text : List ℕ
  pub wrote : Appends old.output.written new.output.written text
  pub front : HoldsOfInput new.input.left bytes (λ schedule. IsFront text (output_of settings schedule))

-- what the whole lines print that were read before is written, none of them is refused, and a read
-- failed
pub record EndsAtReadFault (settings : Settings) (old new : Seen) : Type 0 where
  pub bytes : List ℕ
  pub read : HasRead old new bytes
  pub wrote : Appends old.output.written new.output.written (output_so_far settings bytes)
  pub accepted : (ran false (start_run settings) (parts_of bytes)).refused ≡ None
  pub cause : Rose old.input.read_faults new.input.read_faults
  pub writes : new.output.write_faults ≡ old.output.write_faults

-- a front of what the input prints is written, and a write failed
pub record EndsAtWriteFault (settings : Settings) (old new : Seen) : Type 0 where
  pub early : EndsEarly settings old new
  pub cause : Rose old.output.write_faults new.output.write_faults
  pub reads : new.input.read_faults ≡ old.input.read_faults

-- what the end of a run says
unfoldable pub Ends : Settings → RunEnd → Seen → Seen → Type 0
Ends settings Done old new = EndsDone settings old new
Ends settings (Refused line fault) old new = EndsRefused settings line fault old new
-- want of memory says nothing of the input
Ends settings Memory old new = EndsEarly settings old new
Ends settings ReadFault old new = EndsAtReadFault settings old new
Ends settings WriteFault old new = EndsAtWriteFault settings old new

-- the agent is that after the lines of the input: after all of them, or after those before the refused one
pub record IsAgentOf (settings : Settings) (agent : Option State) (old new : Seen) : Type 0 where
  pub bytes : List ℕ
  pub read : HasRead old new bytes
  pub is : HoldsOfInput new.input.left bytes (λ schedule. agent ≡ Some (run_of settings schedule).agent)

-- the agent that is handed back at the end of a run: none where memory ran out, or a read or a write failed
unfoldable pub HandsBack : Settings → RunEnd → Option State → Seen → Seen → Type 0
HandsBack settings Done agent old new = IsAgentOf settings agent old new
HandsBack settings (Refused line fault) agent old new = IsAgentOf settings agent old new
HandsBack settings Memory agent old new = agent ≡ None
HandsBack settings ReadFault agent old new = agent ≡ None
HandsBack settings WriteFault agent old new = agent ≡ None
