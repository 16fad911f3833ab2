-- Messages to a child process: what is read was printed.
use Rattle.std.proofs.Common.{◌≡◌, ◌≢◌, ℕ, ◌<◌, List, [], ◌∷◌, ◌++◌, Ok, Err, refl, subst, ap, sym, inl, inr}
use Rattle.std.proofs.lemmas.Bool.{ne_eqb, cases_eq}
use Rattle.std.proofs.lemmas.List.Elements.{All-drop}
use Rattle.wire_text.specs.Wire.{IsBytes, uint32, uint64, string}
use Rattle.wire_core.specs.Fields.{uint32_at, uint64_at, string_at}
use Rattle.wire_core.proofs.Theorems.{uint32_is_front, uint64_is_front, string_is_front}
use Rattle.child_msg.specs.declared.fault.ChildFault.TheVariants.{Kind, Short, Trailing}
use Rattle.child_msg.specs.Messages.{ToChildMessage, Sign, Verify, Confirm}
use Rattle.child_msg.specs.ChildFrames.{IsToChild}
use Rattle.child_msg.specs.Reading.{to_child_of, to_child_of_kind, sign_at, verify_at, confirm_at, ended, field_then}
use Rattle.wire_core.proofs.ReadingLemmas.{field_or_is, ended_or_is, last, behind, after_byte}

-- the message of a SIGN body's fields
abbrev signing : ℕ → List ℕ → List ℕ → List ℕ → ℕ → ToChildMessage
signing ask private blob message flags = Sign record { ask = ask; private = private; blob = blob; message = message; flags = flags }

-- the message of a VERIFY body's fields
abbrev verification : ℕ → List ℕ → List ℕ → List ℕ → ToChildMessage
verification ask host_key signature session =
    Verify record { ask = ask; host_key = host_key; signature = signature; session = session }

-- SIGN that was read
sign_is : (bytes : List ℕ) (message : ToChildMessage) → IsBytes bytes → sign_at bytes ≡ Ok message → IsToChild (1 ∷ bytes) message
sign_is bytes message each h =
    let one = field_or_is Short (uint64_at bytes) (λ ask after_ask. field_then (string_at after_ask) (λ private after_private.
    field_then (string_at after_private) (λ blob after_blob. field_then (string_at after_blob) (λ text after_message.
    field_then (uint32_at after_message) (λ flags rest. ended (signing ask private blob text flags) rest))))) message h in
    let ask = uint64_is_front bytes one.field one.rest each one.there in
    let two = field_or_is Short (string_at one.rest) (λ private after_private.
    field_then (string_at after_private) (λ blob after_blob. field_then (string_at after_blob) (λ text after_message.
    field_then (uint32_at after_message) (λ flags rest. ended (signing one.field private blob text flags) rest)))) message one.read in
    let private = string_is_front one.rest two.field two.rest ask.0.left two.there in
    let three = field_or_is Short (string_at two.rest) (λ blob after_blob. field_then (string_at after_blob) (λ text after_message.
    field_then (uint32_at after_message) (λ flags rest. ended (signing one.field two.field blob text flags) rest))) message two.read in
    let blob = string_is_front two.rest three.field three.rest private.0.left three.there in
    let four = field_or_is Short (string_at three.rest) (λ text after_message.
    field_then (uint32_at after_message) (λ flags rest. ended (signing one.field two.field three.field text flags) rest)) message three.read in
    let text = string_is_front three.rest four.field four.rest blob.0.left four.there in
    let five = field_or_is Short (uint32_at four.rest)
    (λ flags rest. ended (signing one.field two.field three.field four.field flags) rest) message four.read in
    let flags = uint32_is_front four.rest five.field five.rest text.0.left five.there in
    let end = ended_or_is Trailing (signing one.field two.field three.field four.field five.field) message five.rest five.read in
    let e : four.rest ≡ uint32 five.field = last four.rest (uint32 five.field) five.rest flags.0.parts end.0 in
    let d : three.rest ≡ string four.field ++ uint32 five.field =
    behind three.rest (string four.field) four.rest (uint32 five.field) text.0.parts e in
    let c : two.rest ≡ string three.field ++ (string four.field ++ uint32 five.field) =
    behind two.rest (string three.field) three.rest (string four.field ++ uint32 five.field) blob.0.parts d in
    let b : one.rest ≡ string two.field ++ (string three.field ++ (string four.field ++ uint32 five.field)) =
    behind one.rest (string two.field) two.rest (string three.field ++ (string four.field ++ uint32 five.field)) private.0.parts c in
    let a : bytes ≡ uint64 one.field ++ (string two.field ++ (string three.field ++ (string four.field ++ uint32 five.field))) =
    behind bytes (uint64 one.field) one.rest
    (string two.field ++ (string three.field ++ (string four.field ++ uint32 five.field))) ask.0.parts b in
    let P : ToChildMessage → Type 0 = λ m. IsToChild (1 ∷ bytes) m in
    subst P {x = signing one.field two.field three.field four.field five.field} end.1
    record { printed = after_byte 1 bytes (uint64 one.field ++ (string two.field ++ (string three.field ++ (string four.field ++ uint32 five.field)))) a; fits = (ask.1, private.1, blob.1, text.1, flags.1) }

-- VERIFY that was read
verify_is : (bytes : List ℕ) (message : ToChildMessage) → IsBytes bytes → verify_at bytes ≡ Ok message → IsToChild (2 ∷ bytes) message
verify_is bytes message each h =
    let one = field_or_is Short (uint64_at bytes) (λ ask after_ask. field_then (string_at after_ask) (λ host_key after_key.
    field_then (string_at after_key) (λ signature after_signature. field_then (string_at after_signature) (λ session rest.
    ended (verification ask host_key signature session) rest)))) message h in
    let ask = uint64_is_front bytes one.field one.rest each one.there in
    let two = field_or_is Short (string_at one.rest) (λ host_key after_key.
    field_then (string_at after_key) (λ signature after_signature. field_then (string_at after_signature) (λ session rest.
    ended (verification one.field host_key signature session) rest))) message one.read in
    let host_key = string_is_front one.rest two.field two.rest ask.0.left two.there in
    let three = field_or_is Short (string_at two.rest) (λ signature after_signature. field_then (string_at after_signature) (λ session rest.
    ended (verification one.field two.field signature session) rest)) message two.read in
    let signature = string_is_front two.rest three.field three.rest host_key.0.left three.there in
    let four = field_or_is Short (string_at three.rest)
    (λ session rest. ended (verification one.field two.field three.field session) rest) message three.read in
    let session = string_is_front three.rest four.field four.rest signature.0.left four.there in
    let end = ended_or_is Trailing (verification one.field two.field three.field four.field) message four.rest four.read in
    let d : three.rest ≡ string four.field = last three.rest (string four.field) four.rest session.0.parts end.0 in
    let c : two.rest ≡ string three.field ++ string four.field =
    behind two.rest (string three.field) three.rest (string four.field) signature.0.parts d in
    let b : one.rest ≡ string two.field ++ (string three.field ++ string four.field) =
    behind one.rest (string two.field) two.rest (string three.field ++ string four.field) host_key.0.parts c in
    let a : bytes ≡ uint64 one.field ++ (string two.field ++ (string three.field ++ string four.field)) =
    behind bytes (uint64 one.field) one.rest (string two.field ++ (string three.field ++ string four.field)) ask.0.parts b in
    let P : ToChildMessage → Type 0 = λ m. IsToChild (2 ∷ bytes) m in
    subst P {x = verification one.field two.field three.field four.field} end.1
    record { printed = after_byte 2 bytes (uint64 one.field ++ (string two.field ++ (string three.field ++ string four.field))) a; fits = (ask.1, host_key.1, signature.1, session.1) }

-- CONFIRM that was read
confirm_is : (bytes : List ℕ) (message : ToChildMessage) → IsBytes bytes → confirm_at bytes ≡ Ok message → IsToChild (3 ∷ bytes) message
confirm_is bytes message each h =
    let one = field_or_is Short (uint64_at bytes)
    (λ job more. field_then (string_at more) (λ prompt rest. ended (Confirm job prompt) rest)) message h in
    let job = uint64_is_front bytes one.field one.rest each one.there in
    let two = field_or_is Short (string_at one.rest) (λ prompt rest. ended (Confirm one.field prompt) rest) message one.read in
    let prompt = string_is_front one.rest two.field two.rest job.0.left two.there in
    let end = ended_or_is Trailing (Confirm one.field two.field) message two.rest two.read in
    let P : ToChildMessage → Type 0 = λ m. IsToChild (3 ∷ bytes) m in
    subst P end.1 record {
      printed = ap (λ (l : List ℕ). 3 ∷ l) (behind _ _ _ _ job.0.parts (last _ _ _ prompt.0.parts end.0));
      fits = (job.1, prompt.1);
    }

-- a kind that is known
at_kind : (kind value : ℕ) (bytes : List ℕ) (message : ToChildMessage) → kind ≡ value
    → (to_child_of (value ∷ bytes) ≡ Ok message → IsToChild (value ∷ bytes) message)
    → to_child_of (kind ∷ bytes) ≡ Ok message → IsToChild (kind ∷ bytes) message
at_kind kind value bytes message same at_value h =
    let P : ℕ → Type 0 = λ k. IsToChild (k ∷ bytes) message in
    let Q : ℕ → Type 0 = λ k. to_child_of (k ∷ bytes) ≡ Ok message in
    subst P (sym same) (at_value (subst Q same h))

-- another kind is none
no_kind : (kind : ℕ) (bytes : List ℕ) (message : ToChildMessage) → kind ≢ 1 → kind ≢ 2 → kind ≢ 3
    → to_child_of (kind ∷ bytes) ≡ Ok message → ⊥
unfolding to_child_of to_child_of_kind
no_kind kind bytes message a b c h =
    let refused : to_child_of (kind ∷ bytes) ≡ Err Kind = rw (ne_eqb kind 1 a, ne_eqb kind 2 b, ne_eqb kind 3 c) refl in
    cc

-- what is read was printed
pub IsToChild_from_to_child_of : (body : List ℕ) (message : ToChildMessage) → IsBytes body → to_child_of body ≡ Ok message
    → IsToChild body message
unfolding to_child_of to_child_of_kind
IsToChild_from_to_child_of [] message each h = cc
IsToChild_from_to_child_of (kind ∷ bytes) message each h =
    let rest = All-drop (λ byte. byte < 256) 1 (kind ∷ bytes) each in
    elim (cases_eq kind 1) [
      | inl same ↦ at_kind kind 1 bytes message same (sign_is bytes message rest) h
      | inr not_1 ↦
          elim (cases_eq kind 2) [
            | inl same ↦ at_kind kind 2 bytes message same (verify_is bytes message rest) h
            | inr not_2 ↦
                elim (cases_eq kind 3) [
                  | inl same ↦ at_kind kind 3 bytes message same (confirm_is bytes message rest) h
                  | inr not_3 ↦
                      absurd (no_kind kind bytes message not_1 not_2 not_3 h)
                ]
          ]
    ]
