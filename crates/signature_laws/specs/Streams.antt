-- What the signer reads, sends, and is heard to say, in bytes (ours).
use Rattle.std.specs.Prelude.{◌≡◌, ℕ, List, [], ◌∷◌, ◌++◌, map}
use Rattle.wire_text.specs.Bounds.{longest_body, longest_to_child}
use Rattle.wire_text.specs.Frames.{IsBody, frames}
use Rattle.child_msg.specs.ChildFrames.{FromChildFits, from_child_body, to_child_body}
use Rattle.child_msg.specs.Messages.{FromChildMessage, ToChildMessage}
use Rattle.signature_laws.specs.Signatures.{AllFit, AreBySigner}

-- a reader with this bound takes each of these bodies
abbrev pub AreBodies : ℕ → List (List ℕ) → Type 0
AreBodies max [] = Unit {0}
AreBodies max (body ∷ later) = IsBody max body × AreBodies max later

-- the fields of each of these answers have the ranges of their types
abbrev pub AnswersFit : List FromChildMessage → Type 0
AnswersFit [] = Unit {0}
AnswersFit (answer ∷ later) = FromChildFits answer × AnswersFit later

-- what was read is the first bytes of the frames of these messages, which can be read as they were written
pub record AreRead (messages : List ToChildMessage) (stream : List ℕ) : Type 0 where
  pub fit : AllFit messages
  pub bodies : AreBodies longest_to_child (map to_child_body messages)
  pub unread : List ℕ
  pub front : stream ++ unread ≡ frames (map to_child_body messages)

-- what is sent is the frames of the signer's answers to these messages
pub record SendsSigned (messages : List ToChildMessage) (sent : List ℕ) : Type 0 where
  pub answers : List FromChildMessage
  pub by : AreBySigner messages answers
  pub framed : sent ≡ frames (map from_child_body answers)

-- what was heard is the first bytes of the frames of these answers, which can be read as they were written
pub record AreHeard (answers : List FromChildMessage) (heard : List ℕ) : Type 0 where
  pub fit : AnswersFit answers
  pub bodies : AreBodies longest_body (map from_child_body answers)
  pub unheard : List ℕ
  pub front : heard ++ unheard ≡ frames (map from_child_body answers)
