-- Additions: what is read is in the grammar.
use Rattle.std.proofs.Common.{◌≡◌, ℕ, List, ◌∷◌, ◌++◌, Ok, inl, inr, refl, subst}
use Rattle.wire_text.specs.Wire.{IsBytes, string}
use Rattle.wire_core.specs.Fields.{string_at}
use Rattle.wire_core.proofs.Theorems.{string_is_front}
use Rattle.constraint_rec.proofs.Theorems.{terms_are_found}
use Rattle.constraint_rec.specs.Constraints.{no_terms}
use Rattle.constraint_rec.specs.Reading.{terms_of}
use Rattle.key_blob.proofs.Theorems.{added_is_found}
use Rattle.key_blob.specs.AddedKeys.{added_key_at}
use Rattle.key_blob.specs.declared.added.AddedKey.{AddedKey}
use Rattle.agent_msg.specs.declared.fault.MsgFault.TheVariants.{Short, Trailing}
use Rattle.agent_msg.specs.Reading.{field_then, constrained, ended, addition_at, constrained_at}
use Rattle.agent_msg.specs.Requests.{ClientRequest, Add, IsRequest}
use Rattle.wire_core.proofs.ReadingLemmas.{field_or_is, ended_or_is, last, behind, after_byte, bytes_behind}
use Rattle.agent_msg.proofs.FieldLemmas.{key_then_is, constrained_is}

-- the request of an addition without constraints
abbrev plain : AddedKey → List ℕ → ClientRequest
plain key comment = Add record { key = key; comment = comment; terms = no_terms }

-- ADD_IDENTITY that was read
pub addition_is : (bytes : List ℕ) (request : ClientRequest) → IsBytes bytes → addition_at bytes ≡ Ok request → IsRequest (17 ∷ bytes) request
addition_is bytes request each h =
    let one = key_then_is (added_key_at bytes) (λ key after_key. field_then (string_at after_key) (λ comment rest. ended (plain key comment) rest)) request h in
    let key = added_is_found bytes one.key one.rest each one.there in
    let two = field_or_is Short (string_at one.rest) (λ comment rest. ended (plain one.key comment) rest) request one.read in
    let comment = string_is_front one.rest two.field two.rest (bytes_behind bytes one.key.private one.rest each key.1) two.there in
    let end = ended_or_is Trailing (plain one.key two.field) request two.rest two.read in
    let b : one.rest ≡ string two.field = last one.rest (string two.field) two.rest comment.0.parts end.0 in
    let a : bytes ≡ one.key.private ++ string two.field = behind bytes one.key.private one.rest (string two.field) key.1 b in
    subst (IsRequest (17 ∷ bytes)) {x = plain one.key two.field} end.1 (inl record {
      key = key.0;
      comment_fits = comment.1;
      unconstrained = refl;
      printed = after_byte 17 bytes (one.key.private ++ string two.field) a;
    })

-- ADD_ID_CONSTRAINED that was read
pub constrained_addition_is : (bytes : List ℕ) (request : ClientRequest) → IsBytes bytes → constrained_at bytes ≡ Ok request
    → IsRequest (25 ∷ bytes) request
constrained_addition_is bytes request each h =
    let one = key_then_is (added_key_at bytes)
    (λ key after_key. field_then (string_at after_key) (λ comment rest. constrained key comment (terms_of rest))) request h in
    let key = added_is_found bytes one.key one.rest each one.there in
    let two = field_or_is Short (string_at one.rest) (λ comment rest. constrained one.key comment (terms_of rest)) request one.read in
    let comment = string_is_front one.rest two.field two.rest (bytes_behind bytes one.key.private one.rest each key.1) two.there in
    let three = constrained_is one.key two.field (terms_of two.rest) request two.read in
    let terms = terms_are_found two.rest three.0 comment.0.left three.1 in
    let made : ClientRequest = Add record { key = one.key; comment = two.field; terms = three.0 } in
    let a : bytes ≡ one.key.private ++ (string two.field ++ two.rest) =
    behind bytes one.key.private one.rest (string two.field ++ two.rest) key.1 comment.0.parts in
    subst (IsRequest (25 ∷ bytes)) {x = made} three.2 (inr record {
      key = key.0;
      comment_fits = comment.1;
      constraints = two.rest;
      constrained = terms;
      printed = after_byte 25 bytes (one.key.private ++ (string two.field ++ two.rest)) a;
    })
