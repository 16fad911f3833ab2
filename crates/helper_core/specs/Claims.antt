-- How a helper may end, a record an end (ours). The file is read from its end, `Answers`.
use Rattle.std.specs.Prelude.{◌≡◌, ℕ, List, Option, Some}
use Rattle.std.specs.Io.KnownBytes.{Appends}
use Rattle.child_peer.specs.Talk.{HasRead, HoldsOfInput}
use Rattle.helper_core.specs.declared.behind.Exchange.{Exchange}
use Rattle.helper_core.specs.declared.status.HelperStatus.{HelperStatus}
use Rattle.helper_core.specs.declared.status.HelperStatus.TheVariants.{Done, BadFrame, Usage, Memory, ReadFault, WriteFault, TornEnd}
use Rattle.helper_core.specs.Routes.{Route}
use Rattle.helper_core.specs.Transcript.{Replies, Transcript, after, ended, replies_of, transcript_of}
use Rattle.world_ports.specs.Causes.{Rose}
use Rattle.world_ports.specs.Journal.{Grows}
use Rattle.world_ports.specs.Streams.{StreamView}

-- what the helper behind and the connection tell at one time
pub record Seen : Type 0 where
  pub behind : Option (List Exchange)
  pub peer : StreamView

-- what a helper does of replies and of a stream
abbrev pub Talk : Type 0
Talk = Replies → List ℕ → Transcript

-- these bytes were read, these requests handed on, and these bytes sent
pub record HasDone (old new : Seen) (bytes : List ℕ) (handed : List Exchange) (sent : List ℕ) : Type 0 where
  pub read : HasRead old.peer new.peer bytes
  pub grew : Grows old.behind new.behind handed
  pub wrote : Appends old.peer.written new.peer.written sent

-- these bytes are sent first and these requests handed on first
pub record Begins (sent : List ℕ) (handed : List Exchange) (all : Transcript) : Type 0 where
  pub later : Transcript
  pub is : all ≡ after sent handed later

-- what the talk has for this stream was sent and handed on, and this is the end
pub record EndsAs (status : HelperStatus) (talk : Talk) (old new : Seen) : Type 0 where
  pub bytes : List ℕ
  pub handed : List Exchange
  pub sent : List ℕ
  pub done : HasDone old new bytes handed sent
  pub is : HoldsOfInput new.peer.left bytes (λ stream.
      talk (replies_of handed) stream ≡ record { sent = sent; handed = handed; end = Some status })
  pub reads : new.peer.read_faults ≡ old.peer.read_faults
  pub writes : new.peer.write_faults ≡ old.peer.write_faults

-- a beginning of what the talk has was sent and handed on
pub record EndsEarly (talk : Talk) (old new : Seen) : Type 0 where
  pub bytes : List ℕ
  pub handed : List Exchange
  pub sent : List ℕ
  pub done : HasDone old new bytes handed sent
  pub begins : HoldsOfInput new.peer.left bytes (λ stream. Begins sent handed (talk (replies_of handed) stream))

-- a read failed, and what the talk has for the bytes before it was sent and handed on
pub record EndsAtReadFault (talk : Talk) (old new : Seen) : Type 0 where
  pub early : EndsEarly talk old new
  pub sent : early.sent ≡ (talk (replies_of early.handed) early.bytes).sent
  pub handed : early.handed ≡ (talk (replies_of early.handed) early.bytes).handed
  pub cause : Rose old.peer.read_faults new.peer.read_faults
  pub writes : new.peer.write_faults ≡ old.peer.write_faults

-- a write failed
pub record EndsAtWriteFault (talk : Talk) (old new : Seen) : Type 0 where
  pub early : EndsEarly talk old new
  pub cause : Rose old.peer.write_faults new.peer.write_faults
  pub reads : new.peer.read_faults ≡ old.peer.read_faults

-- what the end of a talk says
unfoldable pub Ends : HelperStatus → Talk → Seen → Seen → Type 0
Ends Memory talk old new = EndsEarly talk old new
Ends ReadFault talk old new = EndsAtReadFault talk old new
Ends WriteFault talk old new = EndsAtWriteFault talk old new
Ends Done talk old new = EndsAs Done talk old new
Ends BadFrame talk old new = EndsAs BadFrame talk old new
Ends TornEnd talk old new = EndsAs TornEnd talk old new
-- this comes before the talk
Ends Usage talk old new = ⊥

-- the words are none of a helper's: nothing is said and nothing heard, whatever the agent says
pub record EndsUnsaid (talk : Talk) (old new : Seen) : Type 0 where
  pub is : (replies : Replies) (stream : List ℕ) → talk replies stream ≡ ended Usage
  pub same : new ≡ old

-- what a status says
abbrev pub Answers : HelperStatus → (List ℕ → Route) → List (List ℕ) → Seen → Seen → Type 0
Answers Usage route words old new = EndsUnsaid (transcript_of route words) old new
Answers Done route words old new = Ends Done (transcript_of route words) old new
Answers BadFrame route words old new = Ends BadFrame (transcript_of route words) old new
Answers Memory route words old new = Ends Memory (transcript_of route words) old new
Answers ReadFault route words old new = Ends ReadFault (transcript_of route words) old new
Answers WriteFault route words old new = Ends WriteFault (transcript_of route words) old new
Answers TornEnd route words old new = Ends TornEnd (transcript_of route words) old new
