-- What one read and one write do to the bytes that their object tells. `None` claims nothing.
use Rattle.std.specs.Prelude.{◌≡◌, ◌++◌, ◌<◌, ◌≤◌, ℕ, List, length, take, Option, Result, MatchResult, None}
use Rattle.std.specs.Io.KnownBytes.{Appends, Consumes, Keeps, IsAtEnd}
use Rattle.world_ports.specs.declared.stream.Pulled.{Pulled}
use Rattle.world_ports.specs.declared.stream.Pulled.TheVariants.{Bytes, End}

-- what an object of the outside tells at one time: the bytes read so far, those left to read, those
-- written so far; and how many reads and writes failed, which stays at 2^64 - 1
pub record StreamView : Type 0 where
  pub taken : Option (List ℕ)
  pub left : Option (List ℕ)
  pub written : Option (List ℕ)
  pub read_faults : ℕ
  pub write_faults : ℕ

-- what an object tells that is only read, and one that is only written
abbrev pub reading_view : Option (List ℕ) → ℕ → StreamView
reading_view left faults = record { taken = None; left = left; written = None; read_faults = faults; write_faults = 0 }

-- what an object tells that is only written
abbrev pub writing_view : Option (List ℕ) → ℕ → StreamView
writing_view written faults = record { taken = None; left = None; written = written; read_faults = 0; write_faults = faults }

-- it was read at the most, and no failed read is forgotten
pub record OnlyReads (before now : StreamView) : Type 0 where
  pub written : now.written ≡ before.written
  pub write_faults : now.write_faults ≡ before.write_faults
  pub later : before.read_faults ≤ now.read_faults

-- it was written at the most, and no failed write is forgotten
pub record OnlyWrites (before now : StreamView) : Type 0 where
  pub taken : now.taken ≡ before.taken
  pub left : now.left ≡ before.left
  pub read_faults : now.read_faults ≡ before.read_faults
  pub later : before.write_faults ≤ now.write_faults

-- the read gave one byte or more: they are the front of the room, and were the next that were left
pub record GivesBytes (n : ℕ) (room : List ℕ) (before now : StreamView) : Type 0 where
  pub some : 0 < n
  pub within : n ≤ length room
  pub taken : Appends before.taken now.taken (take n room)
  pub left : Consumes before.left now.left (take n room)

-- the read gave nothing, and nothing is gone
pub record GivesNothing (before now : StreamView) : Type 0 where
  pub taken : Keeps before.taken now.taken
  pub left : Keeps before.left now.left

-- the read gave nothing, since nothing is left
pub record HasEnded (before now : StreamView) : Type 0 where
  pub taken : Keeps before.taken now.taken
  pub left : Keeps before.left now.left
  pub end : IsAtEnd now.left

-- what an answer of a read that did not fail says
abbrev pub Gives : Pulled → List ℕ → StreamView → StreamView → Type 0
Gives (Bytes n) room before now = GivesBytes n room before now
Gives End room before now = HasEnded before now

-- what an answer of a read says. Where it tells what is left, it has ended exactly where nothing is
abbrev pub Reads : {E : Type 0} → Result Pulled E → List ℕ → StreamView → StreamView → Type 0
Reads result room before now = MatchResult result
    (λ pulled. Gives pulled room before now)
    (λ _. GivesNothing before now)

-- the write took so many bytes of the piece from its front, at least one
pub record TakesFront (n : ℕ) (piece : List ℕ) (before now : StreamView) : Type 0 where
  pub some : 0 < n
  pub within : n ≤ length piece
  pub written : Appends before.written now.written (take n piece)

-- what an answer of a write says
abbrev pub Writes : {E : Type 0} → Result ℕ E → List ℕ → StreamView → StreamView → Type 0
Writes result piece before now = MatchResult result
    (λ n. TakesFront n piece before now)
    (λ _. Keeps before.written now.written)

-- a front of the bytes was written, and what is left of them was not
pub record WritesFront (bytes rest : List ℕ) (before now : StreamView) : Type 0 where
  pub front : List ℕ
  pub whole : front ++ rest ≡ bytes
  pub written : Appends before.written now.written front

-- some front of the bytes was written, all or none of them included
abbrev pub WritesPart : List ℕ → StreamView → StreamView → Type 0
WritesPart bytes before now = (rest : List ℕ) × WritesFront bytes rest before now
