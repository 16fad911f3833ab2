-- A reply at the front of the agent's bytes (draft-miller-ssh-agent, "Protocol Messages"), and what
-- reads do on the way to it. That a reply has at most 262144 bytes is ours.
use Rattle.std.specs.Prelude.{◌≡◌, ◌<◌, ◌≤◌, ℕ, List, length, take, drop, Option, None, Some}
use Rattle.std.specs.Io.KnownBytes.{Consumes, Keeps, IsAtEnd}
use Rattle.wire_text.specs.Bounds.{longest_body}
use Rattle.wire_text.specs.Wire.{announced_len}
use Rattle.wire_text.specs.Frames.{Front, Whole, Bad, More, front, front_body, after_front}
use Rattle.world_ports.specs.Streams.{StreamView}

-- the body of the frame that stands at the front, where a whole one does, and the bytes behind it
abbrev pub answer_of : Front → List ℕ → Option (List ℕ × List ℕ)
answer_of (Whole body_len) bytes = Some (front_body body_len bytes, after_front body_len bytes)
answer_of (Bad announced) bytes = None
answer_of More bytes = None

-- the body of the reply at the front, and the bytes behind it
abbrev pub answer_at : List ℕ → Option (List ℕ × List ℕ)
answer_at replies = answer_of (front longest_body replies) replies

-- ---- reads

-- one byte or more, and at most so many, were the next that were left
pub record PullsPiece (most : ℕ) (piece : List ℕ) (before now : StreamView) : Type 0 where
  pub some : 0 < length piece
  pub within : length piece ≤ most
  pub left : Consumes before.left now.left piece

-- the source has ended
pub record PullsNothing (before now : StreamView) : Type 0 where
  pub left : Keeps before.left now.left
  pub end : IsAtEnd now.left

-- the first so many bytes were read
pub record TakesFirst (count : ℕ) (replies bytes : List ℕ) (now : StreamView) : Type 0 where
  pub enough : count ≤ length replies
  pub first : bytes ≡ take count replies
  pub left : now.left ≡ Some (drop count replies)

-- the reply at the front was read
pub record TakesReply (replies body : List ℕ) (now : StreamView) : Type 0 where
  pub rest : List ℕ
  pub answer : answer_at replies ≡ Some (body, rest)
  pub left : now.left ≡ Some rest

-- the four bytes announce a length that a reply may have
pub record Announces (header : List ℕ) (count : ℕ) : Type 0 where
  pub is : count ≡ announced_len header
  pub some : 0 < count
  pub within : count ≤ longest_body
