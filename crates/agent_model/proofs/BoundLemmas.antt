-- What comes in one body is short, and lists of identities stay short.
use Rattle.std.proofs.Common.{ℕ, ◌≤◌, List, ◌++◌, length, ap, arith, inl, inr}
use Rattle.std.proofs.lemmas.List.{length-append}
use Rattle.wire_text.specs.Wire.{string}
use Rattle.wire_text.proofs.WireLemmas.{length-string}
use Rattle.agent_msg.specs.Requests.{Addition, Add, IsText, IsRequest}
use Rattle.wire_text.specs.Bounds.{longest_body}

-- ---- the parts of a body

-- a string that is a body's only field is shorter than the body
pub text-within : (number : ℕ) (body text : List ℕ) → IsText number body text →
    length body ≤ longest_body → length text ≤ longest_body
text-within number body text is within =
    omega (arith, ap length is.printed, length-string text, within)

-- the private string of an addition is shorter than its body
pub private-within : (body : List ℕ) (addition : Addition) → IsRequest body (Add addition) →
    length body ≤ longest_body → length addition.key.private ≤ longest_body
private-within body addition (inl is) within =
    let parts = length-append addition.key.private (string addition.comment) in
    omega (arith, ap length is.printed, parts, within)
private-within body addition (inr is) within =
    let parts = length-append addition.key.private (string addition.comment ++ is.constraints) in
    omega (arith, ap length is.printed, parts, within)
