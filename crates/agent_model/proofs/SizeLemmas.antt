-- How many bytes the body of an ask has.
use Rattle.std.proofs.Common.{ℕ, length}
use Rattle.child_msg.specs.ChildFrames.{to_child_body}
use Rattle.agent_model.specs.Errands.{Errand, message_of}

-- the size of the ask of this number for an errand
abbrev pub size_of : Errand → ℕ → ℕ
size_of errand number = length (to_child_body (message_of errand number))
