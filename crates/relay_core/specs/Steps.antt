-- The steps of a relay (ours).
use Rattle.std.specs.Prelude.{◌≡◌, ℕ, Bool, true, false, List, ◌++◌, Option, Some, None, Result, Ok, Err}
use Rattle.std.specs.Io.KnownBytes.{Appends, IsAtEnd}
use Rattle.child_peer.specs.Talk.{HasRead}
use Rattle.child_peer.specs.Words.{ChildWords}
use Rattle.relay_core.specs.Claims.{HasRun, Relaying}
use Rattle.relay_core.specs.Transcript.{Asking, RunAnswer, heard_of, hello_frame, is_granted, verdict_frame}
use Rattle.relay_core.specs.declared.status.RelayStatus.{RelayStatus}
use Rattle.relay_core.specs.declared.status.RelayStatus.TheVariants.{Done, BadFrame, Usage, Memory, ReadFault, WriteFault, TornEnd}
use Rattle.wire_text.specs.Bounds.{longest_to_child}
use Rattle.wire_text.specs.Frames.{Front, Whole, Bad, More, front}
use Rattle.world_ports.specs.Causes.{Rose}
use Rattle.world_ports.specs.Runs.{SpawnerView, is_short_run}
use Rattle.world_ports.specs.Streams.{StreamView}

-- the heard bytes are those that were read, and this stands in front of them
pub record HearsFront (found : Front) (heard : List ℕ) (old new : StreamView) : Type 0 where
  pub read : HasRead old new heard
  pub is : front longest_to_child heard ≡ found
  pub reads : new.read_faults ≡ old.read_faults

-- a bad length stands there
pub record HearsBad (heard : List ℕ) (old new : StreamView) : Type 0 where
  pub announced : ℕ
  pub hears : HearsFront (Bad announced) heard old new

-- the agent ended before a whole frame
pub record HearsEnd (heard : List ℕ) (old new : StreamView) : Type 0 where
  pub hears : HearsFront More heard old new
  pub end : IsAtEnd new.left

-- a read failed
pub record HearsFault (heard : List ℕ) (old new : StreamView) : Type 0 where
  pub read : HasRead old new heard
  pub cause : Rose old.read_faults new.read_faults

-- what waiting for a whole frame says
abbrev pub HearsFrame : Result ℕ RelayStatus → List ℕ → StreamView → StreamView → Type 0
HearsFrame (Ok body_len) heard old new = HearsFront (Whole body_len) heard old new
HearsFrame (Err BadFrame) heard old new = HearsBad heard old new
HearsFrame (Err TornEnd) heard old new = HearsEnd heard old new
HearsFrame (Err ReadFault) heard old new = HearsFault heard old new
HearsFrame (Err Memory) heard old new = HasRead old new heard
HearsFrame (Err Done) heard old new = ⊥
HearsFrame (Err Usage) heard old new = ⊥
HearsFrame (Err WriteFault) heard old new = ⊥

-- the talk is that of these words and this program
abbrev pub IsRelay : ChildWords → List ℕ → Relaying → Type 0
IsRelay words program whole = (stream : List ℕ) (answer : RunAnswer) → whole stream answer ≡ heard_of words program stream answer

-- HELLO was sent, and these bytes were read
pub record IsGreeted (words : ChildWords) (heard : List ℕ) (old new : StreamView) : Type 0 where
  pub read : HasRead old new heard
  pub wrote : Appends old.written new.written (hello_frame words)
  pub reads : new.read_faults ≡ old.read_faults
  pub writes : new.write_faults ≡ old.write_faults

-- these bytes, whatever follows, make this run, and then the agent is told
pub record Asks (whole : Relaying) (words : ChildWords) (heard : List ℕ) (asked : Asking) : Type 0 where
  pub goes : (more : List ℕ) (answer : RunAnswer)
      → whole (heard ++ more) answer ≡ record { sent = hello_frame words ++ verdict_frame words answer; asked = Some asked; status = Done }

-- a run that didn't want memory says whether the user consents
abbrev pub Consents : Option Bool → RunAnswer → Type 0
Consents (Some granted) answer = (is_short_run answer ≡ false) × (granted ≡ is_granted answer)
Consents None answer = is_short_run answer ≡ true

-- one run was made, and says this
pub record Consults (result : Option Bool) (asked : Asking) (old new : SpawnerView) : Type 0 where
  pub answer : RunAnswer
  pub run : HasRun asked answer old new
  pub says : Consents result answer
