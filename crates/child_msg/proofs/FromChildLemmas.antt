-- Messages of a child process: what is read was printed.
use Rattle.std.proofs.Common.{◌≡◌, ◌≢◌, ℕ, ◌^◌, ◌<◌, Bool, true, false, cond, eqb, ◌⊎◌, List, [], ◌∷◌, length, Result, Ok, Err, refl, subst, ap, sym, ◌∙◌, inl, inr}
use Rattle.std.proofs.lemmas.Bool.{eqb-true, ne_eqb, cases_eq}
use Rattle.wire_text.specs.Wire.{IsBytes, uint64}
use Rattle.wire_core.specs.Fields.{uint64_at, string_at}
use Rattle.wire_core.proofs.Theorems.{uint64_is_front, string_is_front}
use Rattle.child_msg.specs.Messages.{FromChildMessage, Hello, Signed, Refused, True, False, Granted, Denied}
use Rattle.child_msg.specs.ChildFrames.{from_child_body, FromChildFits, IsFromChild}
use Rattle.child_msg.specs.Reading.{from_child_of, from_child_of_kind, hello_at, signed_at, number_alone, number_at_end, ticket_ended, ended, field_then}
use Rattle.wire_core.proofs.ReadingLemmas.{field_or_is, ended_or_is, last, behind}
use Rattle.child_msg.specs.declared.fault.ChildFault.TheVariants.{Kind, Short, TicketLength, Trailing}
use Rattle.child_msg.specs.declared.fault.ChildFault.{ChildFault}
use Rattle.std.specs.Result.{result_map_both}
use Rattle.std.proofs.lemmas.List.Elements.{All-drop}

-- one of two readings gave the message
cond_is : {M : Type 0} (b : Bool) (x y : Result M ChildFault) (message : M) → cond b x y ≡ Ok message
    → ((b ≡ true) × (x ≡ Ok message)) ⊎ ((b ≡ false) × (y ≡ Ok message))
cond_is true x y message h = inl (refl, h)
cond_is false x y message h = inr (refl, h)

-- a ticket that was read
ticket_ended_is : (job : ℕ) (ticket rest : List ℕ) (message : FromChildMessage) → ticket_ended job ticket rest ≡ Ok message
    → (length ticket ≡ 16) × (rest ≡ []) × (Hello job ticket ≡ message)
ticket_ended_is job ticket rest message h =
    elim (cond_is (eqb (length ticket) 16) (ended (Hello job ticket) rest) (Err TicketLength) message h) [
      | inl yes_branch ↦ let end = ended_or_is Trailing (Hello job ticket) message rest yes_branch.1 in
          (eqb-true (length ticket) 16 yes_branch.0, end.0, end.1)
      | inr other ↦ let e = other.1 in absurd cc
    ]

-- HELLO that was read
hello_is : (bytes : List ℕ) (message : FromChildMessage) → IsBytes bytes → hello_at bytes ≡ Ok message → IsFromChild (1 ∷ bytes) message
hello_is bytes message each h =
    let number = field_or_is Short (uint64_at bytes) (λ job more. field_then (string_at more) (ticket_ended job)) message h in
    let job = uint64_is_front bytes number.field number.rest each number.there in
    let text = field_or_is Short (string_at number.rest) (ticket_ended number.field) message number.read in
    let ticket = string_is_front number.rest text.field text.rest job.0.left text.there in
    let end = ticket_ended_is number.field text.field text.rest message text.read in
    let P : FromChildMessage → Type 0 = λ m. IsFromChild (1 ∷ bytes) m in
    subst P end.2 record {
      printed = ap (λ (l : List ℕ). 1 ∷ l) (behind _ _ _ _ job.0.parts (last _ _ _ ticket.0.parts end.1));
      fits = (job.1, end.0);
    }

-- SIGNED that was read
signed_is : (bytes : List ℕ) (message : FromChildMessage) → IsBytes bytes → signed_at bytes ≡ Ok message → IsFromChild (101 ∷ bytes) message
signed_is bytes message each h =
    let number = field_or_is Short (uint64_at bytes)
    (λ ask more. field_then (string_at more) (λ signature rest. ended (Signed ask signature) rest)) message h in
    let ask = uint64_is_front bytes number.field number.rest each number.there in
    let text = field_or_is Short (string_at number.rest) (λ signature rest. ended (Signed number.field signature) rest) message number.read in
    let signature = string_is_front number.rest text.field text.rest ask.0.left text.there in
    let end = ended_or_is Trailing (Signed number.field text.field) message text.rest text.read in
    let P : FromChildMessage → Type 0 = λ m. IsFromChild (101 ∷ bytes) m in
    subst P end.1 record {
      printed = ap (λ (l : List ℕ). 101 ∷ l) (behind _ _ _ _ ask.0.parts (last _ _ _ signature.0.parts end.0));
      fits = (ask.1, signature.1);
    }

-- a mapped value was made of a value
result_map_is : (made : ℕ → FromChildMessage) (read : Result ℕ ChildFault) (message : FromChildMessage)
    → result_map_both made (λ fault. fault) read ≡ Ok message → (number : ℕ) × (read ≡ Ok number) × (made number ≡ message)
result_map_is made (Ok number) message h = (number, refl, cc)
result_map_is made (Err fault) message h = cc

-- a message of a number alone that was read
pub record IsAlone (made : ℕ → FromChildMessage) (bytes : List ℕ) (message : FromChildMessage) : Type 0 where
  pub number : ℕ
  pub printed : bytes ≡ uint64 number
  pub small : number < 2 ^ 64
  pub same : made number ≡ message

alone_is : (made : ℕ → FromChildMessage) (bytes : List ℕ) (message : FromChildMessage) → IsBytes bytes
    → number_alone made bytes ≡ Ok message → IsAlone made bytes message
alone_is made bytes message each h =
    let mapped = result_map_is made (number_at_end bytes) message h in
    let number = field_or_is Short (uint64_at bytes) (λ value rest. ended value rest) mapped.0 mapped.1 in
    let value = uint64_is_front bytes number.field number.rest each number.there in
    let end = ended_or_is Trailing number.field mapped.0 number.rest number.read in
    record {
      number = number.field;
      printed = last _ _ _ value.0.parts end.0;
      small = value.1;
      same = ap made end.1 ∙ mapped.2;
    }

-- a message of a number alone, of this kind
number_kind_is : (kind : ℕ) (made : ℕ → FromChildMessage) → ((number : ℕ) → from_child_body (made number) ≡ kind ∷ uint64 number)
    → ((number : ℕ) → number < 2 ^ 64 → FromChildFits (made number)) → (bytes : List ℕ) (message : FromChildMessage)
    → IsBytes bytes → number_alone made bytes ≡ Ok message → IsFromChild (kind ∷ bytes) message
number_kind_is kind made prints small bytes message each h =
    let is = alone_is made bytes message each h in
    let P : FromChildMessage → Type 0 = λ m. IsFromChild (kind ∷ bytes) m in
    subst P is.same record {
      printed = ap (λ (l : List ℕ). kind ∷ l) is.printed ∙ sym (prints is.number);
      fits = small is.number is.small;
    }

-- a kind that is known
at_kind : (kind value : ℕ) (bytes : List ℕ) (message : FromChildMessage) → kind ≡ value
    → (from_child_of (value ∷ bytes) ≡ Ok message → IsFromChild (value ∷ bytes) message)
    → from_child_of (kind ∷ bytes) ≡ Ok message → IsFromChild (kind ∷ bytes) message
at_kind kind value bytes message same at_value h =
    let P : ℕ → Type 0 = λ k. IsFromChild (k ∷ bytes) message in
    let Q : ℕ → Type 0 = λ k. from_child_of (k ∷ bytes) ≡ Ok message in
    subst P (sym same) (at_value (subst Q same h))

-- another kind is none
no_kind : (kind : ℕ) (bytes : List ℕ) (message : FromChildMessage) → kind ≢ 1 → kind ≢ 101 → kind ≢ 102 → kind ≢ 103
    → kind ≢ 104 → kind ≢ 105 → kind ≢ 106 → from_child_of (kind ∷ bytes) ≡ Ok message → ⊥
unfolding from_child_of from_child_of_kind
no_kind kind bytes message a b c d e f g h =
    let refused : from_child_of (kind ∷ bytes) ≡ Err Kind =
    rw (ne_eqb kind 1 a, ne_eqb kind 101 b, ne_eqb kind 102 c, ne_eqb kind 103 d, ne_eqb kind 104 e, ne_eqb kind 105 f, ne_eqb kind 106 g) refl in
    cc

-- what is read was printed
pub IsFromChild_from_child_of : (body : List ℕ) (message : FromChildMessage) → IsBytes body → from_child_of body ≡ Ok message
    → IsFromChild body message
unfolding from_child_of from_child_of_kind
IsFromChild_from_child_of [] message each h = cc
IsFromChild_from_child_of (kind ∷ bytes) message each h =
    let rest = All-drop (λ byte. byte < 256) 1 (kind ∷ bytes) each in
    elim (cases_eq kind 1) [
      | inl same ↦ at_kind kind 1 bytes message same (hello_is bytes message rest) h
      | inr not_1 ↦
          elim (cases_eq kind 101) [
            | inl same ↦ at_kind kind 101 bytes message same (signed_is bytes message rest) h
            | inr not_101 ↦
                elim (cases_eq kind 102) [
                  | inl same ↦ at_kind kind 102 bytes message same
                      (number_kind_is 102 Refused (λ n. refl) (λ n small. small) bytes message rest) h
                  | inr not_102 ↦
                      elim (cases_eq kind 103) [
                        | inl same ↦ at_kind kind 103 bytes message same
                            (number_kind_is 103 True (λ n. refl) (λ n small. small) bytes message rest) h
                        | inr not_103 ↦
                            elim (cases_eq kind 104) [
                              | inl same ↦ at_kind kind 104 bytes message same
                                  (number_kind_is 104 False (λ n. refl) (λ n small. small) bytes message rest) h
                              | inr not_104 ↦
                                  elim (cases_eq kind 105) [
                                    | inl same ↦ at_kind kind 105 bytes message same
                                        (number_kind_is 105 Granted (λ n. refl) (λ n small. small) bytes message rest) h
                                    | inr not_105 ↦
                                        elim (cases_eq kind 106) [
                                          | inl same ↦ at_kind kind 106 bytes message same
                                              (number_kind_is 106 Denied (λ n. refl) (λ n small. small) bytes message rest) h
                                          | inr not_106 ↦
                                              absurd (no_kind kind bytes message not_1 not_101 not_102 not_103 not_104 not_105 not_106 h)
                                        ]
                                  ]
                            ]
                      ]
                ]
          ]
    ]
