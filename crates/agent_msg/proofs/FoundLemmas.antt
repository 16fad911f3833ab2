-- What is read is in the grammar.
use Rattle.std.proofs.Common.{◌≡◌, ◌≢◌, ℕ, ◌<◌, List, [], ◌∷◌, ◌++◌, drop, Ok, inl, inr, refl, subst, sym}
use Rattle.std.proofs.lemmas.Bool.{ne_eqb, cases_eq}
use Rattle.std.proofs.lemmas.List.Elements.{All-cons, All-nil, All-tail}
use Rattle.wire_text.specs.Wire.{IsBytes, uint32, string}
use Rattle.wire_core.specs.Fields.{uint32_at, string_at}
use Rattle.wire_core.proofs.Theorems.{uint32_is_front, string_is_front}
use Rattle.agent_msg.specs.declared.fault.MsgFault.TheVariants.{Short, Trailing}
use Rattle.agent_msg.specs.Reading.{field_then, ended, text_then, text_at_end, sign_at, request_of, request_of_number}
use Rattle.agent_msg.specs.Requests.{ClientRequest, ListIdentities, Sign, Remove, RemoveAll, Lock, Unlock, Unsupported, numbers, IsText, IsRequest}
use Rattle.agent_msg.proofs.AdditionLemmas.{addition_is, constrained_addition_is}
use Rattle.agent_msg.proofs.BindLemmas.{extension_is}
use Rattle.wire_core.proofs.ReadingLemmas.{field_or_is, ended_or_is, last, behind, after_byte}
use Rattle.agent_msg.proofs.FieldLemmas.{text_then_is}

-- a request of a number alone that was read
nothing_is : (number : ℕ) (made request : ClientRequest) (bytes : List ℕ) → IsRequest (number ∷ []) made
    → ended made bytes ≡ Ok request → IsRequest (number ∷ bytes) request
nothing_is number made request bytes is h =
    let end = ended_or_is Trailing made request bytes h in
    let P : List ℕ → Type 0 = λ rest. IsRequest (number ∷ rest) request in
    subst P (sym end.0) (subst (IsRequest (number ∷ [])) end.1 is)

-- a string that was read up to the end
text_is : (number : ℕ) (bytes text : List ℕ) → IsBytes bytes → text_at_end bytes ≡ Ok text → IsText number (number ∷ bytes) text
text_is number bytes text each h =
    let one = field_or_is Short (string_at bytes) (λ value rest. ended value rest) text h in
    let value = string_is_front bytes one.field one.rest each one.there in
    let end = ended_or_is Trailing one.field text one.rest one.read in
    subst (IsText number (number ∷ bytes)) end.1 record {
      printed = after_byte number bytes (string one.field) (last _ _ _ value.0.parts end.0);
      fits = value.1;
    }

-- a request of a string alone that was read
text_request_is : (number : ℕ) (made : List ℕ → ClientRequest) (bytes : List ℕ) (request : ClientRequest)
    → ((text : List ℕ) → IsText number (number ∷ bytes) text → IsRequest (number ∷ bytes) (made text)) → IsBytes bytes
    → text_then made (text_at_end bytes) ≡ Ok request → IsRequest (number ∷ bytes) request
text_request_is number made bytes request is each h =
    let read = text_then_is made (text_at_end bytes) request h in
    subst (IsRequest (number ∷ bytes)) read.2 (is read.0 (text_is number bytes read.0 each read.1))

-- the request of a SIGN_REQUEST's fields
abbrev signing : List ℕ → List ℕ → ℕ → ClientRequest
signing blob message flags = Sign record { blob = blob; message = message; flags = flags }

-- SIGN_REQUEST that was read
sign_is : (bytes : List ℕ) (request : ClientRequest) → IsBytes bytes → sign_at bytes ≡ Ok request → IsRequest (13 ∷ bytes) request
sign_is bytes request each h =
    let one = field_or_is Short (string_at bytes) (λ blob after_blob. field_then (string_at after_blob) (λ message after_message.
    field_then (uint32_at after_message) (λ flags rest. ended (signing blob message flags) rest))) request h in
    let blob = string_is_front bytes one.field one.rest each one.there in
    let two = field_or_is Short (string_at one.rest) (λ message after_message.
    field_then (uint32_at after_message) (λ flags rest. ended (signing one.field message flags) rest)) request one.read in
    let message = string_is_front one.rest two.field two.rest blob.0.left two.there in
    let three = field_or_is Short (uint32_at two.rest) (λ flags rest. ended (signing one.field two.field flags) rest) request two.read in
    let flags = uint32_is_front two.rest three.field three.rest message.0.left three.there in
    let end = ended_or_is Trailing (signing one.field two.field three.field) request three.rest three.read in
    let c : two.rest ≡ uint32 three.field = last two.rest (uint32 three.field) three.rest flags.0.parts end.0 in
    let b : one.rest ≡ string two.field ++ uint32 three.field =
    behind one.rest (string two.field) two.rest (uint32 three.field) message.0.parts c in
    let a : bytes ≡ string one.field ++ (string two.field ++ uint32 three.field) =
    behind bytes (string one.field) one.rest (string two.field ++ uint32 three.field) blob.0.parts b in
    subst (IsRequest (13 ∷ bytes)) {x = signing one.field two.field three.field} end.1 record {
      printed = after_byte 13 bytes (string one.field ++ (string two.field ++ uint32 three.field)) a;
      blob_fits = blob.1;
      message_fits = message.1;
      flags_fit = flags.1;
    }

-- a number that is known
at_number : (number value : ℕ) (bytes : List ℕ) (request : ClientRequest) → number ≡ value
    → (request_of (value ∷ bytes) ≡ Ok request → IsRequest (value ∷ bytes) request)
    → request_of (number ∷ bytes) ≡ Ok request → IsRequest (number ∷ bytes) request
at_number number value bytes request same at_value h =
    let P : ℕ → Type 0 = λ n. IsRequest (n ∷ bytes) request in
    let Q : ℕ → Type 0 = λ n. request_of (n ∷ bytes) ≡ Ok request in
    subst P (sym same) (at_value (subst Q same h))

-- another number
other_is : (number : ℕ) (bytes : List ℕ) (request : ClientRequest) → number ≢ 11 → number ≢ 13 → number ≢ 17 → number ≢ 18
    → number ≢ 19 → number ≢ 22 → number ≢ 23 → number ≢ 25 → number ≢ 27 → request_of (number ∷ bytes) ≡ Ok request
    → IsRequest (number ∷ bytes) request
unfolding request_of request_of_number
other_is number bytes request n11 n13 n17 n18 n19 n22 n23 n25 n27 h =
    let P : ℕ → Type 0 = λ known. number ≢ known in
    let read : request_of (number ∷ bytes) ≡ Ok (Unsupported number) =
    rw (
      ne_eqb number 11 n11,
      ne_eqb number 13 n13,
      ne_eqb number 17 n17,
      ne_eqb number 18 n18,
      ne_eqb number 19 n19,
      ne_eqb number 22 n22,
      ne_eqb number 23 n23,
      ne_eqb number 25 n25,
      ne_eqb number 27 n27,
    ) refl in
    let same : Unsupported number ≡ request = cc in
    let none = All-nil P in
    let from_27 = All-cons P 27 (drop 9 numbers) n27 none in
    let from_25 = All-cons P 25 (drop 8 numbers) n25 from_27 in
    let from_23 = All-cons P 23 (drop 7 numbers) n23 from_25 in
    let from_22 = All-cons P 22 (drop 6 numbers) n22 from_23 in
    let from_19 = All-cons P 19 (drop 5 numbers) n19 from_22 in
    let from_18 = All-cons P 18 (drop 4 numbers) n18 from_19 in
    let from_17 = All-cons P 17 (drop 3 numbers) n17 from_18 in
    let from_13 = All-cons P 13 (drop 2 numbers) n13 from_17 in
    let from_11 = All-cons P 11 (drop 1 numbers) n11 from_13 in
    subst (IsRequest (number ∷ bytes)) {x = Unsupported number} same record { contents = bytes; printed = refl; other = from_11 }

-- what is read is a request
pub request_is_found : (body : List ℕ) (request : ClientRequest) → IsBytes body → request_of body ≡ Ok request → IsRequest body request
unfolding request_of request_of_number
request_is_found [] request each h = absurd cc
request_is_found (number ∷ bytes) request each h =
    let rest = All-tail (λ byte. byte < 256) number bytes each in
    elim (cases_eq number 11) [
      | inl same ↦ at_number number 11 bytes request same (nothing_is 11 ListIdentities request bytes refl) h
      | inr n11 ↦
          elim (cases_eq number 13) [
            | inl same ↦ at_number number 13 bytes request same (sign_is bytes request rest) h
            | inr n13 ↦
                elim (cases_eq number 17) [
                  | inl same ↦ at_number number 17 bytes request same (addition_is bytes request rest) h
                  | inr n17 ↦
                      elim (cases_eq number 18) [
                        | inl same ↦ at_number number 18 bytes request same (text_request_is 18 Remove bytes request (λ text is. is) rest) h
                        | inr n18 ↦
                            elim (cases_eq number 19) [
                              | inl same ↦ at_number number 19 bytes request same (nothing_is 19 RemoveAll request bytes refl) h
                              | inr n19 ↦
                                  elim (cases_eq number 22) [
                                    | inl same ↦ at_number number 22 bytes request same (text_request_is 22 Lock bytes request (λ text is. is) rest) h
                                    | inr n22 ↦
                                        elim (cases_eq number 23) [
                                          | inl same ↦ at_number number 23 bytes request same (text_request_is 23 Unlock bytes request (λ text is. is) rest) h
                                          | inr n23 ↦
                                              elim (cases_eq number 25) [
                                                | inl same ↦ at_number number 25 bytes request same (constrained_addition_is bytes request rest) h
                                                | inr n25 ↦
                                                    elim (cases_eq number 27) [
                                                      | inl same ↦ at_number number 27 bytes request same (extension_is bytes request rest) h
                                                      | inr n27 ↦ other_is number bytes request n11 n13 n17 n18 n19 n22 n23 n25 n27 h
                                                    ]
                                              ]
                                        ]
                                  ]
                            ]
                      ]
                ]
          ]
    ]
