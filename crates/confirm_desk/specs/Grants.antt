-- The frame by which a child process grants (ours).
use Rattle.std.specs.Prelude.{◌≡◌, ℕ, List, ◌++◌}
use Rattle.wire_text.specs.Wire.{string}
use Rattle.child_msg.specs.ChildFrames.{from_child_body}
use Rattle.child_msg.specs.Messages.{Granted}

-- the bytes begin with the frame of GRANTED for this job
pub record StartsWithGrant (job : ℕ) (heard : List ℕ) : Type 0 where
  pub rest : List ℕ
  pub whole : heard ≡ string (from_child_body (Granted job)) ++ rest
