-- What one read from the agent does to the bytes that a child has heard and not used up, and what is said (ours).
use Rattle.std.specs.Prelude.{◌≡◌, ℕ, ◌<◌, List, ◌++◌, length, Result, Ok, Err}
use Rattle.std.specs.Io.KnownBytes.{Appends, Consumes, Keeps, IsAtEnd}
use Rattle.child_peer.specs.declared.fault.HearFault.{HearFault}
use Rattle.child_peer.specs.declared.fault.HearFault.TheVariants.{Failed, Memory}
use Rattle.child_peer.specs.declared.fault.SayFault.{SayFault}
use Rattle.child_peer.specs.declared.fault.SayFault.TheVariants as say
use Rattle.world_ports.specs.Causes.{Rose}
use Rattle.world_ports.specs.Streams.{StreamView, WritesPart}
use Rattle.world_ports.specs.declared.stream.Pulled.{Pulled}
use Rattle.world_ports.specs.declared.stream.Pulled.TheVariants.{Bytes, End}

-- a piece of one byte or more was read, and is heard
pub record HearsPiece (before now : List ℕ) (old new : StreamView) : Type 0 where
  pub piece : List ℕ
  pub some : 0 < length piece
  pub heard : now ≡ before ++ piece
  pub taken : Appends old.taken new.taken piece
  pub left : Consumes old.left new.left piece
  pub faults : new.read_faults ≡ old.read_faults

-- nothing was read
pub record HearsNothing (before now : List ℕ) (old new : StreamView) : Type 0 where
  pub heard : now ≡ before
  pub taken : Keeps old.taken new.taken
  pub left : Keeps old.left new.left

-- what the answer of a read says
abbrev pub Hears : Result Pulled HearFault → List ℕ → List ℕ → StreamView → StreamView → Type 0
Hears (Ok (Bytes n)) before now old new = HearsPiece before now old new
-- the agent ended
Hears (Ok End) before now old new =
    HearsNothing before now old new × IsAtEnd new.left × (new.read_faults ≡ old.read_faults)
-- the read failed
Hears (Err Failed) before now old new =
    HearsNothing before now old new × Rose old.read_faults new.read_faults
Hears (Err Memory) before now old new =
    HearsNothing before now old new × (new.read_faults ≡ old.read_faults)

-- ---- what is said

-- what the answer of a write of a whole frame says
abbrev pub Says : Result Unit SayFault → List ℕ → StreamView → StreamView → Type 0
Says (Ok _) frame old new = Appends old.written new.written frame × (new.write_faults ≡ old.write_faults)
-- a write failed
Says (Err say.Failed) frame old new = WritesPart frame old new × Rose old.write_faults new.write_faults
-- nothing was written
Says (Err say.Memory) frame old new = new ≡ old
