-- Lemmas on replies of the helper behind.
use Rattle.std.proofs.Common.{◌≡◌, ◌≤◌, ℕ, List, [], ◌∷◌, ◌++◌, length, Option, Result, Ok, Err, MatchResult, OnOk, inl, ap, ◌∙◌, subst}
use Rattle.std.specs.declared.alloc.AllocError.{AllocError}
use Rattle.child_msg.specs.ChildFrames.{IsFromChild, from_child_body, from_child_length}
use Rattle.child_msg.specs.Messages.{FromChildMessage}
use Rattle.child_msg.proofs.WriteLemmas.{length-from_child_body}
use Rattle.helper_core.specs.declared.asked.Asked.{Asked}
use Rattle.helper_core.specs.declared.asked.Asked.TheVariants.{Signature, Verdict}
use Rattle.helper_core.specs.declared.behind.Exchange.{Exchange}
use Rattle.helper_core.specs.Routes.{counted, given_up_by, reply_message, signed_under, verdict_under}
use Rattle.helper_core.specs.Serving.{IsHandedOn, IsMaybeHandedOn}
use Rattle.wire_text.specs.Bounds.{longest_body}
use Rattle.wire_text.specs.Wire.{string}
use Rattle.world_ports.specs.Journal.{Grows}

-- a message is as long as its body
pub small_message : (body : List ℕ) (message : FromChildMessage) → IsFromChild body message
    → length body ≤ longest_body → from_child_length message ≤ longest_body
small_message body message is small = subst (λ (n : ℕ). n ≤ longest_body) (ap length is.printed ∙ length-from_child_body message) small

-- the answer by the message of the reply
pub counted-signature : (asked : Asked) (ask : ℕ) (reply : Option (List ℕ)) (message : Option FromChildMessage)
    → asked ≡ Signature ask → reply_message reply ≡ message
    → counted asked reply ≡ signed_under ask message
unfolding counted
counted-signature asked ask reply message is read = ap (λ (a : Asked). counted a reply) is ∙ ap (signed_under ask) read

pub counted-verdict : (asked : Asked) (ask : ℕ) (reply : Option (List ℕ)) (message : Option FromChildMessage)
    → asked ≡ Verdict ask → reply_message reply ≡ message
    → counted asked reply ≡ verdict_under ask message
unfolding counted
counted-verdict asked ask reply message is read = ap (λ (a : Asked). counted a reply) is ∙ ap (verdict_under ask) read

-- the reply, what became of the helper, and the frame that was written
pub handed_on_by : (result : Result Unit AllocError) (asked : Asked) (request : List ℕ) (behind now : Option (List Exchange)) (gave_up given_up : ℕ) (before out : List ℕ) (reply : Option (List ℕ))
    → Grows behind now (record { request = request; reply = reply } ∷ []) → given_up ≡ given_up_by asked reply gave_up
    → OnOk result (out ≡ before ++ string (from_child_body (counted asked reply)))
    → MatchResult result (λ _. IsHandedOn asked request behind now gave_up given_up before out) (λ _. IsMaybeHandedOn asked request behind now gave_up given_up)
handed_on_by (Ok done) asked request behind now gave_up given_up before out reply grew parted frame = record { reply = reply; grew = grew; appended = frame; parted = parted }
handed_on_by (Err error) asked request behind now gave_up given_up before out reply grew parted frame = record { reply = reply; told = inl grew; parted = parted }
