-- The lengths of bodies, and the rules by which appended fields are a body.
use Rattle.std.proofs.Common.{◌≡◌, ◌+◌, ◌++◌, length, append_assoc, arith}
use Rattle.std.proofs.lemmas.Grind.{common_steps}
use Rattle.std.proofs.lemmas.List.{length-append}
use Rattle.wire_text.proofs.WireLemmas.{wire_lengths}
use Rattle.child_msg.specs.ChildFrames.{from_child_body, to_child_body, from_child_length, to_child_length}
use Rattle.child_msg.specs.Messages.{FromChildMessage, Hello, Signed, Refused, True, False, Granted, Denied, ToChildMessage, Sign, Verify, Confirm}

-- a body is as long as its fields say
pub length-from_child_body : (message : FromChildMessage) → length (from_child_body message) ≡ from_child_length message
length-from_child_body (Hello job ticket) = simp (wire_lengths, length-append) (omega arith)
length-from_child_body (Signed ask signature) = simp (wire_lengths, length-append) (omega arith)
length-from_child_body (Refused ask) = simp wire_lengths (omega arith)
length-from_child_body (True ask) = simp wire_lengths (omega arith)
length-from_child_body (False ask) = simp wire_lengths (omega arith)
length-from_child_body (Granted job) = simp wire_lengths (omega arith)
length-from_child_body (Denied job) = simp wire_lengths (omega arith)

-- a body is as long as its fields say
pub length-to_child_body : (message : ToChildMessage) → length (to_child_body message) ≡ to_child_length message
length-to_child_body (Sign s) = simp (wire_lengths, length-append) (omega arith)
length-to_child_body (Verify v) = simp (wire_lengths, length-append) (omega arith)
length-to_child_body (Confirm job prompt) = simp (wire_lengths, length-append) (omega arith)

pub ruleset written = (common_steps, wire_lengths, length-append, append_assoc, length-from_child_body, length-to_child_body)
