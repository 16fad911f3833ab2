-- What is said of a whole talk with the agent (ours).
use Rattle.std.specs.Prelude.{◌≡◌, ℕ, List, ◌++◌, Option, IfSome}
use Rattle.std.specs.Io.KnownBytes.{Appends, Consumes}
use Rattle.world_ports.specs.Streams.{StreamView}

-- these bytes were read
pub record HasRead (old new : StreamView) (bytes : List ℕ) : Type 0 where
  pub taken : Appends old.taken new.taken bytes
  pub left : Consumes old.left new.left bytes

-- it holds of the bytes that were read, and of all that the agent says, where that is told
pub record HoldsOfInput (left : Option (List ℕ)) (bytes : List ℕ) (P : List ℕ → Type 0) : Type 0 where
  pub read : P bytes
  pub whole : IfSome left (λ rest. P (bytes ++ rest))

-- a text stands at the front of another
pub record IsFront (text all : List ℕ) : Type 0 where
  pub more : List ℕ
  pub is : text ++ more ≡ all
