-- Whose signature an answer of the signer is, over any list of events (ours).
use Rattle.std.specs.Prelude.{◌≡◌, ◌⊎◌, ℕ, List, [], ◌∷◌, ◌++◌, map, Option, Some, None, Ok, Err}
use Rattle.world_ports.specs.declared.Moment.{Moment}
use Rattle.agent_msg.specs.Requests.{Signing}
use Rattle.child_msg.specs.ChildFrames.{ToChildFits, to_child_body}
use Rattle.child_msg.specs.Messages.{FromChildMessage, Refused, Signed, ToChildMessage}
use Rattle.child_msg.specs.Messages as child
use Rattle.key_wire.specs.declared.fault.KeyFault.{KeyFault}
use Rattle.helper_core.specs.Laws.{AreAnswers}
use Rattle.helper_core.specs.Routes.{counted}
use Rattle.helper_core.specs.declared.asked.Asked.TheVariants as asked
use Rattle.signer_keys.specs.Answers.{route_of}
use Rattle.signer_keys.specs.Signing.{signature_for}
use Rattle.signer_keys.specs.Types.{type_of}
use Rattle.agent_model.specs.Actions.{Asked, Asking, ForSignature}
use Rattle.agent_model.specs.Runs.{Stamped}
use Rattle.agent_laws.specs.History.{onto}
use Rattle.agent_laws.specs.Past.{PastAddition, last_addition}

-- it is one of these
abbrev pub IsIn : {A : Type 0} → A → List A → Type 0
IsIn one [] = ⊥
IsIn one (first ∷ later) = (first ≡ one) ⊎ IsIn one later

-- ---- the premise

-- the fields of each of these messages have the ranges of their types
abbrev pub AllFit : List ToChildMessage → Type 0
AllFit [] = Unit {0}
AllFit (message ∷ later) = ToChildFits message × AllFit later

-- these are the signer's answers to the first of these messages, one to each, in their order
pub record AreBySigner (messages : List ToChildMessage) (answers : List FromChildMessage) : Type 0 where
  pub fit : AllFit messages
  pub each : AreAnswers route_of (map to_child_body messages) answers

-- ---- the law

-- the request that an ask of this number for a signature puts, with this addition's key
abbrev pub request_with : PastAddition → Signing → ℕ → child.Signing
request_with added signing ask = record {
  ask = ask;
  private = added.addition.key.private;
  blob = signing.blob;
  message = signing.message;
  flags = signing.flags;
}

-- what is answered to a request to sign: the signature, a refusal where there is none, and where neither the blob nor the
-- private string is of a type that the signer knows, what the reply of the helper behind it gives
pub data IsSignatureFor (request : child.Signing) : FromChildMessage → Type 0 where
  signs : (text : List ℕ) → signature_for request ≡ Ok text → IsSignatureFor request (Signed request.ask text)
  refuses : (fault : KeyFault) → signature_for request ≡ Err fault → IsSignatureFor request (Refused request.ask)
  hands_on : (reply : Option (List ℕ)) → type_of request.blob ≡ None → type_of request.private ≡ None
      → IsSignatureFor request (counted (asked.Signature request.ask) reply)

-- the answer is to the ask of this number that these actions, the oldest first, tell: one for a signature, which has the key
-- of the last addition that stands before it
pub record IsOfItsAsk (actions : List Stamped) (ask : ℕ) (answer : FromChildMessage) : Type 0 where
  pub earlier : List Stamped
  pub moment : Moment
  pub asking : Asking
  pub later : List Stamped
  pub told : actions ≡ earlier ++ record { moment = moment; action = Asked asking } ∷ later
  pub number : asking.ask ≡ ask
  pub signing : Signing
  pub purpose : asking.purpose ≡ ForSignature signing
  pub added : PastAddition
  pub key : last_addition signing.blob (onto [] earlier) ≡ Some added
  pub is : IsSignatureFor (request_with added signing ask) answer
