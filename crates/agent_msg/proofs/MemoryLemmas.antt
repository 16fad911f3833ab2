-- No request but an addition is refused for want of memory.
use Rattle.std.proofs.Common.{◌≡◌, ◌≢◌, ℕ, Bool, true, false, cond, eqb, List, [], ◌∷◌, Option, Some, None, Result, Ok, Err}
use Rattle.std.proofs.lemmas.Bool.{ne_eqb}
use Rattle.std.specs.Str.{bytes_eq}
use Rattle.wire_core.specs.Fields.{boolean_at, uint32_at, string_at}
use Rattle.wire_core.specs.Readings.{IsAnswer}
use Rattle.agent_msg.specs.declared.fault.MsgFault.{MsgFault}
use Rattle.agent_msg.specs.declared.fault.MsgFault.TheVariants.{Memory}
use Rattle.agent_msg.specs.declared.request.Request.{Request}
use Rattle.agent_msg.specs.Reading.{field_then, ended, text_then, text_at_end, sign_at, bind_at, extension_by, extension_at, request_of_number}
use Rattle.agent_msg.specs.Requests.{ClientRequest, ListIdentities, Sign, Remove, RemoveAll, Lock, Unlock, Bind, session_bind, client_request}

-- it is no answer that memory ran out
abbrev NeedsNone : {R : Type 0} → Result R MsgFault → Type 0
NeedsNone read = read ≡ Err Memory → ⊥

field_needs_none : {A R : Type 0} (at : Option (A × List ℕ)) (later : A → List ℕ → Result R MsgFault)
    → ((field : A) (rest : List ℕ) → NeedsNone (later field rest)) → NeedsNone (field_then at later)
field_needs_none None later none h = cc
field_needs_none (Some x) later none h = none x.0 x.1 h

end_needs_none : {R : Type 0} (value : R) (rest : List ℕ) → NeedsNone (ended value rest)
end_needs_none value [] h = cc
end_needs_none value (byte ∷ rest) h = cc

text_needs_none : (made : List ℕ → ClientRequest) (at : Result (List ℕ) MsgFault) → NeedsNone at → NeedsNone (text_then made at)
text_needs_none made (Ok text) none h = cc
text_needs_none made (Err fault) none h = none cc

text_at_end_needs_none : (bytes : List ℕ) → NeedsNone (text_at_end bytes)
text_at_end_needs_none bytes = field_needs_none (string_at bytes) (λ text rest. ended text rest) (λ text rest. end_needs_none text rest)

-- the request of a SIGN_REQUEST's fields
abbrev signing : List ℕ → List ℕ → ℕ → ClientRequest
signing blob message flags = Sign record { blob = blob; message = message; flags = flags }

sign_needs_none : (bytes : List ℕ) → NeedsNone (sign_at bytes)
sign_needs_none bytes =
    field_needs_none (string_at bytes)
    (λ blob after_blob. field_then (string_at after_blob) (λ message after_message.
    field_then (uint32_at after_message) (λ flags rest. ended (signing blob message flags) rest)))
    (λ blob after_blob. field_needs_none (string_at after_blob)
    (λ message after_message. field_then (uint32_at after_message) (λ flags rest. ended (signing blob message flags) rest))
    (λ message after_message. field_needs_none (uint32_at after_message) (λ flags rest. ended (signing blob message flags) rest)
    (λ flags rest. end_needs_none (signing blob message flags) rest)))

-- the request of the fields of an extension that binds
abbrev binding : List ℕ → List ℕ → List ℕ → Bool → ClientRequest
binding host_key session signature forwarding =
    Bind record { host_key = host_key; session = session; signature = signature; forwarding = forwarding }

bind_needs_none : (bytes : List ℕ) → NeedsNone (bind_at bytes)
bind_needs_none bytes =
    field_needs_none (string_at bytes) (λ key after_key. field_then (string_at after_key)
    (λ session after_session. field_then (string_at after_session)
    (λ signature after_signature. field_then (boolean_at after_signature)
    (λ forwarding rest. ended (binding key session signature forwarding) rest))))
    (λ key after_key. field_needs_none (string_at after_key)
    (λ session after_session. field_then (string_at after_session)
    (λ signature after_signature. field_then (boolean_at after_signature)
    (λ forwarding rest. ended (binding key session signature forwarding) rest)))
    (λ session after_session. field_needs_none (string_at after_session)
    (λ signature after_signature. field_then (boolean_at after_signature)
    (λ forwarding rest. ended (binding key session signature forwarding) rest))
    (λ signature after_signature. field_needs_none (boolean_at after_signature)
    (λ forwarding rest. ended (binding key session signature forwarding) rest)
    (λ forwarding rest. end_needs_none (binding key session signature forwarding) rest))))

extension_by_needs_none : (named : Bool) (name contents : List ℕ) → NeedsNone (extension_by named name contents)
extension_by_needs_none true name contents h = bind_needs_none contents h
extension_by_needs_none false name contents h = cc

extension_needs_none : (bytes : List ℕ) → NeedsNone (extension_at bytes)
extension_needs_none bytes =
    field_needs_none (string_at bytes)
    (λ name contents. extension_by (bytes_eq name session_bind) name contents)
    (λ name contents. extension_by_needs_none (bytes_eq name session_bind) name contents)

-- one of two
either_needs_none : {R : Type 0} (b : Bool) (x y : Result R MsgFault) → NeedsNone x → NeedsNone y → NeedsNone (cond b x y)
either_needs_none true x y first second h = first h
either_needs_none false x y first second h = second h

-- a request that is no addition is read without memory
number_needs_none : (number : ℕ) (bytes : List ℕ) → number ≢ 17 → number ≢ 25 → NeedsNone (request_of_number number bytes)
unfolding request_of_number
number_needs_none number bytes n17 n25 =
    rw (ne_eqb number 17 n17, ne_eqb number 25 n25)
    (either_needs_none (eqb number 11) _ _ (end_needs_none ListIdentities bytes)
    (either_needs_none (eqb number 13) _ _ (sign_needs_none bytes)
    (either_needs_none (eqb number 18) _ _ (text_needs_none Remove (text_at_end bytes) (text_at_end_needs_none bytes))
    (either_needs_none (eqb number 19) _ _ (end_needs_none RemoveAll bytes)
    (either_needs_none (eqb number 22) _ _ (text_needs_none Lock (text_at_end bytes) (text_at_end_needs_none bytes))
    (either_needs_none (eqb number 23) _ _ (text_needs_none Unlock (text_at_end bytes) (text_at_end_needs_none bytes))
    (either_needs_none (eqb number 27) _ _ (extension_needs_none bytes) (λ h. cc))))))))

-- nor does the code say that memory ran out
pub plain_needs_none : (number : ℕ) (bytes : List ℕ) (answer : Result Request MsgFault) → number ≢ 17 → number ≢ 25
    → IsAnswer client_request answer (request_of_number number bytes) → answer ≡ Err Memory → ⊥
plain_needs_none number bytes (Ok request) n17 n25 is h = cc
plain_needs_none number bytes (Err fault) n17 n25 is h =
    let same : fault ≡ Memory = cc in
    let read : request_of_number number bytes ≡ Err Memory = cc in
    number_needs_none number bytes n17 n25 read
