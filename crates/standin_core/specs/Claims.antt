-- How a stand-in helper may end, a record an end (ours). The file is read from its end, `Answers`.
use Rattle.std.specs.Prelude.{◌≡◌, ◌⊎◌, ℕ, List, [], ◌∷◌, Option, Some, IfSome}
use Rattle.std.specs.Io.KnownBytes.{Appends}
use Rattle.child_peer.specs.Talk.{HasRead, HoldsOfInput, IsFront}
use Rattle.child_peer.specs.Words.{ChildWords, words_of}
use Rattle.standin_core.specs.Transcript.{Transcript, ended, transcript_of}
use Rattle.standin_core.specs.declared.status.HelperStatus.{HelperStatus}
use Rattle.standin_core.specs.declared.status.HelperStatus.TheVariants.{Done, BadFrame, Usage, FileFault, FileTooLong, BadFile, Memory, ReadFault, WriteFault, TornEnd}
use Rattle.world_ports.specs.Causes.{Rose}
use Rattle.world_ports.specs.Files.{FilesView}
use Rattle.world_ports.specs.Journal.{Grows}
use Rattle.world_ports.specs.Streams.{StreamView}

-- ---- the connection alone

-- `whole` tells for a stream what is sent and how it ends: of this stream that was sent, and this is the end
pub record EndsAs (status : HelperStatus) (whole : List ℕ → Transcript) (old new : StreamView) : Type 0 where
  pub bytes : List ℕ
  pub read : HasRead old new bytes
  pub sent : List ℕ
  pub wrote : Appends old.written new.written sent
  pub is : HoldsOfInput new.left bytes (λ stream. whole stream ≡ record { sent = sent; status = status })
  pub reads : new.read_faults ≡ old.read_faults
  pub writes : new.write_faults ≡ old.write_faults

-- a front of what is to be sent was sent
pub record EndsEarly (whole : List ℕ → Transcript) (old new : StreamView) : Type 0 where
  pub bytes : List ℕ
  pub read : HasRead old new bytes
  pub sent : List ℕ
  pub wrote : Appends old.written new.written sent
  pub front : HoldsOfInput new.left bytes (λ stream. IsFront sent (whole stream).sent)

-- a read failed, and what is sent for the bytes before it was sent
pub record EndsAtReadFault (whole : List ℕ → Transcript) (old new : StreamView) : Type 0 where
  pub bytes : List ℕ
  pub read : HasRead old new bytes
  pub wrote : Appends old.written new.written (whole bytes).sent
  pub front : HoldsOfInput new.left bytes (λ stream. IsFront (whole bytes).sent (whole stream).sent)
  pub cause : Rose old.read_faults new.read_faults
  pub writes : new.write_faults ≡ old.write_faults

-- a write failed
pub record EndsAtWriteFault (whole : List ℕ → Transcript) (old new : StreamView) : Type 0 where
  pub early : EndsEarly whole old new
  pub cause : Rose old.write_faults new.write_faults
  pub reads : new.read_faults ≡ old.read_faults

-- what the end of a talk says
unfoldable pub Ends : HelperStatus → (List ℕ → Transcript) → StreamView → StreamView → Type 0
Ends Memory whole old new = EndsEarly whole old new
Ends ReadFault whole old new = EndsAtReadFault whole old new
Ends WriteFault whole old new = EndsAtWriteFault whole old new
Ends Done whole old new = EndsAs Done whole old new
Ends BadFrame whole old new = EndsAs BadFrame whole old new
Ends TornEnd whole old new = EndsAs TornEnd whole old new
-- these come before the talk
Ends Usage whole old new = ⊥
Ends FileFault whole old new = ⊥
Ends FileTooLong whole old new = ⊥
Ends BadFile whole old new = ⊥

-- ---- the files too

-- what the files and the connection tell at one time
pub record Seen : Type 0 where
  pub files : FilesView
  pub peer : StreamView

-- the talk is that of the words, of what files hold, and of what the agent says; no file failed
pub record EndsTalk (status : HelperStatus) (words : List (List ℕ)) (old new : Seen) : Type 0 where
  pub held : List ℕ → Option (List ℕ)
  pub told : IfSome old.files.held (λ at. at ≡ held)
  pub ends : Ends status (transcript_of words held) old.peer new.peer
  pub faults : new.files.faults ≡ old.files.faults

-- this is the end, whatever the agent says: nothing was read from it and nothing sent; no file failed
pub record EndsUnsaid (status : HelperStatus) (words : List (List ℕ)) (old new : Seen) : Type 0 where
  pub held : List ℕ → Option (List ℕ)
  pub told : IfSome old.files.held (λ at. at ≡ held)
  pub is : (stream : List ℕ) → transcript_of words held stream ≡ ended status
  pub peer : new.peer ≡ old.peer
  pub faults : new.files.faults ≡ old.files.faults

-- the call that reads the data file failed and no other did, and that was counted; nothing was read from the agent and
-- nothing sent
pub record FailsAtFile (words : List (List ℕ)) (old new : Seen) : Type 0 where
  pub read : ChildWords
  pub of_words : words_of words ≡ Some read
  pub path : List ℕ
  pub named : read.last ≡ Some path
  pub failed : Grows old.files.failed new.files.failed (path ∷ [])
  pub cause : Rose old.files.faults new.files.faults
  pub peer : new.peer ≡ old.peer

-- what a status says
abbrev pub Answers : HelperStatus → List (List ℕ) → Seen → Seen → Type 0
Answers Done words old new = EndsTalk Done words old new
Answers BadFrame words old new = EndsTalk BadFrame words old new
Answers Usage words old new = EndsUnsaid Usage words old new
Answers FileFault words old new = FailsAtFile words old new
Answers FileTooLong words old new = EndsUnsaid FileTooLong words old new
Answers BadFile words old new = EndsUnsaid BadFile words old new
-- memory ran out in the talk or before it
Answers Memory words old new = EndsTalk Memory words old new ⊎ (new.peer ≡ old.peer)
Answers ReadFault words old new = EndsTalk ReadFault words old new
Answers WriteFault words old new = EndsTalk WriteFault words old new
Answers TornEnd words old new = EndsTalk TornEnd words old new
