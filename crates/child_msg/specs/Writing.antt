-- What stands of a message that is written (ours).
use Rattle.std.specs.Prelude.{◌≡◌, ℕ, List, ◌++◌, length, Ok}
use Rattle.wire_text.specs.Bounds.{longest_body, longest_to_child}
use Rattle.wire_text.specs.Wire.{string}
use Rattle.wire_text.specs.Frames.{front, Whole}
use Rattle.child_msg.specs.ChildFrames.{from_child_body, to_child_body, FromChildFits, ToChildFits, IsFromChild, IsToChild}
use Rattle.child_msg.specs.Messages.{FromChildMessage, ToChildMessage}
use Rattle.child_msg.specs.Reading.{from_child_of, to_child_of}

-- the body of a message of a child process is in the grammar and is read back, its frame is found whatever follows, and
-- no other message has it
pub record IsFromChildWriting (message : FromChildMessage) : Type 0 where
  pub in_grammar : IsFromChild (from_child_body message) message
  pub read_back : from_child_of (from_child_body message) ≡ Ok message
  pub framed : (rest : List ℕ)
      → front longest_body (string (from_child_body message) ++ rest) ≡ Whole (length (from_child_body message))
  pub alone : (other : FromChildMessage) → FromChildFits other → from_child_body other ≡ from_child_body message
      → other ≡ message

-- the body of a message to a child process is in the grammar and is read back, its frame is found whatever follows, and
-- no other message has it
pub record IsToChildWriting (message : ToChildMessage) : Type 0 where
  pub in_grammar : IsToChild (to_child_body message) message
  pub read_back : to_child_of (to_child_body message) ≡ Ok message
  pub framed : (rest : List ℕ)
      → front longest_to_child (string (to_child_body message) ++ rest) ≡ Whole (length (to_child_body message))
  pub alone : (other : ToChildMessage) → ToChildFits other → to_child_body other ≡ to_child_body message
      → other ≡ message
