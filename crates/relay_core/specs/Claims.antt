-- How a relay may end, a record an end (ours). The file is read from its end, `Answers`.
use Rattle.std.specs.Prelude.{◌≡◌, ◌⊎◌, false, ℕ, List, Some, None, MatchResult}
use Rattle.std.specs.Io.KnownBytes.{Appends}
use Rattle.child_peer.specs.Talk.{HasRead, HoldsOfInput, IsFront}
use Rattle.relay_core.specs.Transcript.{Asking, RunAnswer, Transcript, refused, transcript_of}
use Rattle.relay_core.specs.declared.status.RelayStatus.{RelayStatus}
use Rattle.relay_core.specs.declared.status.RelayStatus.TheVariants.{Done, BadFrame, Usage, Memory, ReadFault, WriteFault, TornEnd}
use Rattle.world_ports.specs.Causes.{Rose}
use Rattle.world_ports.specs.Journal.{Tells}
use Rattle.world_ports.specs.Runs.{CountsRun, SpawnerView, is_short_run}
use Rattle.world_ports.specs.Streams.{StreamView}

-- what the spawner and the connection tell at one time
pub record Seen : Type 0 where
  pub spawner : SpawnerView
  pub peer : StreamView

-- what a stream and the answer of a run make of a relay
abbrev pub Relaying : Type 0
Relaying = List ℕ → RunAnswer → Transcript

-- this run and no other was made; where it wants memory, it may be missing among the runs that are told
pub record HasRun (asked : Asking) (answer : RunAnswer) (old new : SpawnerView) : Type 0 where
  pub told : Tells old.runs new.runs (is_short_run answer) (record { program = asked.program; word = asked.word; answer = answer })
  pub cause : MatchResult answer (λ _. new.faults ≡ old.faults) (λ fault. CountsRun fault old.faults new.faults)

-- one run was made, with the program and the prompt that the stream makes; it didn't want memory, and the agent was told
-- what it says
pub record EndsTold (whole : Relaying) (old new : Seen) : Type 0 where
  pub asked : Asking
  pub answer : RunAnswer
  pub run : HasRun asked answer old.spawner new.spawner
  pub ended : is_short_run answer ≡ false
  pub bytes : List ℕ
  pub read : HasRead old.peer new.peer bytes
  pub sent : List ℕ
  pub wrote : Appends old.peer.written new.peer.written sent
  pub is : HoldsOfInput new.peer.left bytes (λ stream. whole stream answer ≡ record { sent = sent; asked = Some asked; status = Done })
  pub reads : new.peer.read_faults ≡ old.peer.read_faults
  pub writes : new.peer.write_faults ≡ old.peer.write_faults

-- no run was made, and however it would have ended, this is sent and this is the end
pub record EndsUnasked (status : RelayStatus) (whole : Relaying) (old new : Seen) : Type 0 where
  pub bytes : List ℕ
  pub read : HasRead old.peer new.peer bytes
  pub sent : List ℕ
  pub wrote : Appends old.peer.written new.peer.written sent
  pub is : HoldsOfInput new.peer.left bytes (λ stream. (answer : RunAnswer) → whole stream answer ≡ record { sent = sent; asked = None; status = status })
  pub reads : new.peer.read_faults ≡ old.peer.read_faults
  pub writes : new.peer.write_faults ≡ old.peer.write_faults
  pub spawner : new.spawner ≡ old.spawner

-- no run was made, and what was sent is a front of what is sent however it would have ended
pub record EndsBeforeRun (whole : Relaying) (old new : Seen) : Type 0 where
  pub bytes : List ℕ
  pub read : HasRead old.peer new.peer bytes
  pub sent : List ℕ
  pub wrote : Appends old.peer.written new.peer.written sent
  pub front : HoldsOfInput new.peer.left bytes (λ stream. (answer : RunAnswer) → IsFront sent (whole stream answer).sent)
  pub spawner : new.spawner ≡ old.spawner

-- a stream and the answer of a run make this run, and these bytes are a front of what they make
pub record GoesSoFar (asked : Asking) (sent : List ℕ) (transcript : Transcript) : Type 0 where
  pub run : transcript.asked ≡ Some asked
  pub front : IsFront sent transcript.sent

-- one run was made, with the program and the prompt that the stream makes, and a front of what is sent then was sent
pub record EndsAfterRun (whole : Relaying) (old new : Seen) : Type 0 where
  pub asked : Asking
  pub answer : RunAnswer
  pub run : HasRun asked answer old.spawner new.spawner
  pub bytes : List ℕ
  pub read : HasRead old.peer new.peer bytes
  pub sent : List ℕ
  pub wrote : Appends old.peer.written new.peer.written sent
  pub so_far : HoldsOfInput new.peer.left bytes (λ stream. GoesSoFar asked sent (whole stream answer))

-- what was done is a front of what is to be done, with one such run at the most
abbrev pub EndsEarly : Relaying → Seen → Seen → Type 0
EndsEarly whole old new = EndsBeforeRun whole old new ⊎ EndsAfterRun whole old new

-- a read failed, before any run
pub record EndsAtReadFault (whole : Relaying) (old new : Seen) : Type 0 where
  pub early : EndsBeforeRun whole old new
  pub cause : Rose old.peer.read_faults new.peer.read_faults
  pub writes : new.peer.write_faults ≡ old.peer.write_faults

-- a write failed
pub record EndsAtWriteFault (whole : Relaying) (old new : Seen) : Type 0 where
  pub early : EndsEarly whole old new
  pub cause : Rose old.peer.write_faults new.peer.write_faults
  pub reads : new.peer.read_faults ≡ old.peer.read_faults

-- what the end of a talk says
unfoldable pub Ends : RelayStatus → Relaying → Seen → Seen → Type 0
Ends Done whole old new = EndsTold whole old new
Ends BadFrame whole old new = EndsUnasked BadFrame whole old new
-- this comes before the talk
Ends Usage whole old new = ⊥
Ends Memory whole old new = EndsEarly whole old new
Ends ReadFault whole old new = EndsAtReadFault whole old new
Ends WriteFault whole old new = EndsAtWriteFault whole old new
Ends TornEnd whole old new = EndsUnasked TornEnd whole old new

-- whatever the agent says, the words are refused, and nothing was done
pub record EndsUnsaid (words : List (List ℕ)) (old new : Seen) : Type 0 where
  pub is : (stream : List ℕ) (answer : RunAnswer) → transcript_of words stream answer ≡ refused
  pub nothing : new ≡ old

-- what a status says
abbrev pub Answers : RelayStatus → List (List ℕ) → Seen → Seen → Type 0
Answers Done words old new = Ends Done (transcript_of words) old new
Answers BadFrame words old new = Ends BadFrame (transcript_of words) old new
Answers Usage words old new = EndsUnsaid words old new
Answers Memory words old new = Ends Memory (transcript_of words) old new
Answers ReadFault words old new = Ends ReadFault (transcript_of words) old new
Answers WriteFault words old new = Ends WriteFault (transcript_of words) old new
Answers TornEnd words old new = Ends TornEnd (transcript_of words) old new
