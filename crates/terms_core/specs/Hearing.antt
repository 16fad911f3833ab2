-- What waiting for a whole frame says (ours). A frame of a request and of a reply has a body of 1 to 262144 bytes.
use Rattle.std.specs.Prelude.{◌≡◌, ℕ, List, [], ◌∷◌, ◌++◌, Result, Ok, Err}
use Rattle.std.specs.Io.KnownBytes.{IsAtEnd}
use Rattle.child_peer.specs.Talk.{HasRead}
use Rattle.terms_core.specs.declared.fault.HearStop.{HearStop}
use Rattle.terms_core.specs.declared.fault.HearStop.TheVariants.{Bad, End, Torn, Failed, Memory}
use Rattle.wire_text.specs.Bounds.{longest_body}
use Rattle.wire_text.specs.Frames as frames
use Rattle.world_ports.specs.Causes.{Rose}
use Rattle.world_ports.specs.Streams.{StreamView}

-- an end is between two frames where nothing was heard of the next
abbrev pub end_of : List ℕ → HearStop
end_of [] = End
end_of (byte ∷ bytes) = Torn

-- these bytes were read, and stand behind those that had been heard
pub record HearsMore (before now : List ℕ) (old new : StreamView) : Type 0 where
  pub bytes : List ℕ
  pub heard : now ≡ before ++ bytes
  pub read : HasRead old new bytes

-- and no read failed
pub record HearsOn (before now : List ℕ) (old new : StreamView) : Type 0 where
  pub more : HearsMore before now old new
  pub reads : new.read_faults ≡ old.read_faults

-- this stands in front of what was heard
pub record HearsFront (found : frames.Front) (before now : List ℕ) (old new : StreamView) : Type 0 where
  pub on : HearsOn before now old new
  pub is : frames.front longest_body now ≡ found

-- a bad length stands there
pub record HearsBad (before now : List ℕ) (old new : StreamView) : Type 0 where
  pub announced : ℕ
  pub hears : HearsFront (frames.Bad announced) before now old new

-- the source ended before a whole frame
pub record HearsEnd (stop : HearStop) (before now : List ℕ) (old new : StreamView) : Type 0 where
  pub hears : HearsFront frames.More before now old new
  pub end : IsAtEnd new.left
  pub which : end_of now ≡ stop

-- a read failed
pub record HearsFault (before now : List ℕ) (old new : StreamView) : Type 0 where
  pub more : HearsMore before now old new
  pub cause : Rose old.read_faults new.read_faults

-- what waiting for a whole frame says
abbrev pub HearsFrame : Result ℕ HearStop → List ℕ → List ℕ → StreamView → StreamView → Type 0
HearsFrame (Ok body_len) before now old new = HearsFront (frames.Whole body_len) before now old new
HearsFrame (Err Bad) before now old new = HearsBad before now old new
HearsFrame (Err End) before now old new = HearsEnd End before now old new
HearsFrame (Err Torn) before now old new = HearsEnd Torn before now old new
HearsFrame (Err Failed) before now old new = HearsFault before now old new
HearsFrame (Err Memory) before now old new = HearsOn before now old new
