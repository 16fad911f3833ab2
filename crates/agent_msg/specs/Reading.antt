-- What a body is, field by field: its request, or the first fault.
use Rattle.std.specs.Prelude.{◌==◌, ◌||◌, ℕ, Bool, true, false, List, [], ◌∷◌, Option, Result, Ok, Err, if◌then◌else◌}
use Rattle.std.specs.Str.{bytes_eq}
use Rattle.wire_core.specs.Fields.{boolean_at, uint32_at, string_at}
use Rattle.wire_core.specs.Readings.{field_or, ended_or}
use Rattle.constraint_rec.specs.Constraints.{no_terms}
use Rattle.constraint_rec.specs.Reading.{terms_of}
use Rattle.constraint_rec.specs.declared.fault.TermFault.{TermFault}
use Rattle.constraint_rec.specs.declared.terms.Terms.{Terms}
use Rattle.key_blob.specs.AddedKeys.{added_key_at}
use Rattle.key_blob.specs.declared.added.AddedKey.{AddedKey}
use Rattle.key_blob.specs.declared.fault.KeyFault.{KeyFault}
use Rattle.agent_msg.specs.declared.fault.MsgFault.{MsgFault}
use Rattle.agent_msg.specs.declared.fault.MsgFault.TheVariants.{Empty, Short, Trailing}
use Rattle.agent_msg.specs.Faults.{key_fault, term_fault}
use Rattle.agent_msg.specs.Requests.{ClientRequest, ListIdentities, Sign, Add, Remove, RemoveAll, Lock, Unlock, Bind, OtherExtension, Unsupported, session_bind}

-- ---- fields

-- the field at the front, and what the bytes behind it are; Short where the field isn't there
abbrev pub field_then : {A R : Type 0} → Option (A × List ℕ) → (A → List ℕ → Result R MsgFault)
    → Result R MsgFault
field_then at later = field_or Short at later

-- the added key at the front, and what the bytes behind it are, or the key's own fault
abbrev pub key_then : {R : Type 0} → Result (AddedKey × List ℕ) KeyFault
    → (AddedKey → List ℕ → Result R MsgFault) → Result R MsgFault
key_then (Ok read) later = later read.0 read.1
key_then (Err fault) later = Err (key_fault fault)

-- the addition under the constraints, or the constraints' own fault
abbrev pub constrained : AddedKey → List ℕ → Result Terms TermFault → Result ClientRequest MsgFault
constrained key comment (Ok terms) = Ok (Add record { key = key; comment = comment; terms = terms })
constrained key comment (Err fault) = Err (term_fault fault)

-- the value, where no byte follows
abbrev pub ended : {R : Type 0} → R → List ℕ → Result R MsgFault
ended value rest = ended_or Trailing value rest

-- ---- what follows a number

-- a string, and then the end
abbrev pub text_at_end : List ℕ → Result (List ℕ) MsgFault
text_at_end bytes = field_then (string_at bytes) (λ text rest. ended text rest)

-- a request of a string alone
abbrev pub text_then : (List ℕ → ClientRequest) → Result (List ℕ) MsgFault
    → Result ClientRequest MsgFault
text_then request (Ok text) = Ok (request text)
text_then request (Err fault) = Err fault

-- SIGN_REQUEST: key blob, message, flags
abbrev pub sign_at : List ℕ → Result ClientRequest MsgFault
sign_at bytes = field_then (string_at bytes) (λ blob after_blob.
    field_then (string_at after_blob) (λ message after_message.
    field_then (uint32_at after_message) (λ flags rest.
    ended (Sign record { blob = blob; message = message; flags = flags }) rest)))

-- ADD_IDENTITY: key, comment
abbrev pub addition_at : List ℕ → Result ClientRequest MsgFault
addition_at bytes = key_then (added_key_at bytes) (λ key after_key.
    field_then (string_at after_key) (λ comment rest.
    ended (Add record { key = key; comment = comment; terms = no_terms }) rest))

-- ADD_ID_CONSTRAINED: key, comment, constraints to the end
abbrev pub constrained_at : List ℕ → Result ClientRequest MsgFault
constrained_at bytes = key_then (added_key_at bytes) (λ key after_key.
    field_then (string_at after_key) (λ comment rest. constrained key comment (terms_of rest)))

-- the extension that binds: host key, session identifier, signature, whether the agent is forwarded
abbrev pub bind_at : List ℕ → Result ClientRequest MsgFault
bind_at bytes = field_then (string_at bytes) (λ host_key after_key.
    field_then (string_at after_key) (λ session after_session.
    field_then (string_at after_session) (λ signature after_signature.
    field_then (boolean_at after_signature) (λ forwarding rest.
    ended (Bind record {
      host_key = host_key;
      session = session;
      signature = signature;
      forwarding = forwarding;
    }) rest))))

-- the request of an extension, by whether its name is that of the one that binds: the contents of any
-- other aren't looked at
abbrev pub extension_by : Bool → List ℕ → List ℕ → Result ClientRequest MsgFault
extension_by true name contents = bind_at contents
extension_by false name contents = Ok (OtherExtension name)

-- EXTENSION: a name, and then its contents
abbrev pub extension_at : List ℕ → Result ClientRequest MsgFault
extension_at bytes = field_then (string_at bytes)
    (λ name contents. extension_by (bytes_eq name session_bind) name contents)

-- what follows a number
unfoldable pub request_of_number : ℕ → List ℕ → Result ClientRequest MsgFault
request_of_number number bytes =
    if number == 11 then ended ListIdentities bytes
    else if number == 13 then sign_at bytes
    else if number == 17 then addition_at bytes
    else if number == 18 then text_then Remove (text_at_end bytes)
    else if number == 19 then ended RemoveAll bytes
    else if number == 22 then text_then Lock (text_at_end bytes)
    else if number == 23 then text_then Unlock (text_at_end bytes)
    else if number == 25 then constrained_at bytes
    else if number == 27 then extension_at bytes
    else Ok (Unsupported number)

-- the request that the body is, or its first fault
unfoldable pub request_of : List ℕ → Result ClientRequest MsgFault
request_of [] = Err Empty
request_of (number ∷ bytes) = request_of_number number bytes

-- the number is that of an addition, which alone takes memory to be read
unfoldable pub is_addition : List ℕ → Bool
is_addition [] = false
is_addition (number ∷ _) = (number == 17) || (number == 25)
