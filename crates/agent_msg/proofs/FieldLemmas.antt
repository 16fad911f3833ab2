-- What a reading that succeeds has read, beside fields.
use Rattle.std.proofs.Common.{◌≡◌, List, ℕ, Result, Ok, Err, refl}
use Rattle.constraint_rec.specs.declared.fault.TermFault.{TermFault}
use Rattle.constraint_rec.specs.declared.terms.Terms.{Terms}
use Rattle.key_blob.specs.declared.added.AddedKey.{AddedKey}
use Rattle.key_blob.specs.declared.fault.KeyFault.{KeyFault}
use Rattle.agent_msg.specs.declared.fault.MsgFault.{MsgFault}
use Rattle.agent_msg.specs.Reading.{key_then, constrained, text_then}
use Rattle.agent_msg.specs.Requests.{ClientRequest, Add}

-- a key was there, and the later reading gave the request
pub record IsReadKey {R : Type 0} (at : Result (AddedKey × List ℕ) KeyFault) (later : AddedKey → List ℕ → Result R MsgFault) (request : R)
    : Type 0 where
  pub key : AddedKey
  pub rest : List ℕ
  pub there : at ≡ Ok (key, rest)
  pub read : later key rest ≡ Ok request

pub key_then_is : {R : Type 0} (at : Result (AddedKey × List ℕ) KeyFault) (later : AddedKey → List ℕ → Result R MsgFault) (request : R)
    → key_then at later ≡ Ok request → IsReadKey at later request
key_then_is (Err fault) later request h = cc
key_then_is (Ok x) later request h = record { key = x.0; rest = x.1; there = refl; read = h }

-- there were constraints, and the request is the addition under them
pub constrained_is : (key : AddedKey) (comment : List ℕ) (at : Result Terms TermFault) (request : ClientRequest)
    → constrained key comment at ≡ Ok request
    → (terms : Terms) × (at ≡ Ok terms) × (Add record { key = key; comment = comment; terms = terms } ≡ request)
constrained_is key comment (Err fault) request h = absurd cc
constrained_is key comment (Ok terms) request h = (terms, refl, cc)

-- there was a text, and the request is made of it
pub text_then_is : (made : List ℕ → ClientRequest) (at : Result (List ℕ) MsgFault) (request : ClientRequest)
    → text_then made at ≡ Ok request → (text : List ℕ) × (at ≡ Ok text) × (made text ≡ request)
text_then_is made (Err fault) request h = absurd cc
text_then_is made (Ok text) request h = (text, refl, cc)
