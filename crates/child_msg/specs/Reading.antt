-- What a body is, field by field: its message, or the first fault.
use Rattle.std.specs.Prelude.{◌==◌, ℕ, List, [], ◌∷◌, length, Option, Result, Err, if◌then◌else◌}
use Rattle.std.specs.Result.{result_map_both}
use Rattle.wire_core.specs.Fields.{uint32_at, uint64_at, string_at}
use Rattle.wire_core.specs.Readings.{field_or, ended_or}
use Rattle.child_msg.specs.Messages.{FromChildMessage, Hello, Signed, Refused, True, False, Granted, Denied, ToChildMessage, Sign, Verify, Confirm}
use Rattle.child_msg.specs.declared.fault.ChildFault.{ChildFault}
use Rattle.child_msg.specs.declared.fault.ChildFault.TheVariants.{Short, Kind, Trailing, TicketLength}

-- the field at the front, and what the bytes behind it are; Short where the field isn't there
abbrev pub field_then : {A M : Type 0} → Option (A × List ℕ) → (A → List ℕ → Result M ChildFault)
    → Result M ChildFault
field_then at later = field_or Short at later

-- the message, where no byte follows
abbrev pub ended : {M : Type 0} → M → List ℕ → Result M ChildFault
ended message rest = ended_or Trailing message rest

-- a number, and then the end
abbrev pub number_at_end : List ℕ → Result ℕ ChildFault
number_at_end bytes = field_then (uint64_at bytes) (λ number rest. ended number rest)

-- a message of a number alone
abbrev pub number_alone : (ℕ → FromChildMessage) → List ℕ → Result FromChildMessage ChildFault
number_alone message bytes = result_map_both message (λ fault. fault) (number_at_end bytes)

-- a ticket, and then the end
abbrev pub ticket_ended : ℕ → List ℕ → List ℕ → Result FromChildMessage ChildFault
ticket_ended job ticket rest = if length ticket == 16 then ended (Hello job ticket) rest else Err TicketLength

-- HELLO: job, ticket
abbrev pub hello_at : List ℕ → Result FromChildMessage ChildFault
hello_at bytes = field_then (uint64_at bytes) (λ job more. field_then (string_at more) (ticket_ended job))

-- SIGNED: ask, signature
abbrev pub signed_at : List ℕ → Result FromChildMessage ChildFault
signed_at bytes = field_then (uint64_at bytes) (λ ask more.
    field_then (string_at more) (λ signature rest. ended (Signed ask signature) rest))

-- what follows a kind from a child process
unfoldable pub from_child_of_kind : ℕ → List ℕ → Result FromChildMessage ChildFault
from_child_of_kind kind bytes =
    if kind == 1 then hello_at bytes
    else if kind == 101 then signed_at bytes
    else if kind == 102 then number_alone Refused bytes
    else if kind == 103 then number_alone True bytes
    else if kind == 104 then number_alone False bytes
    else if kind == 105 then number_alone Granted bytes
    else if kind == 106 then number_alone Denied bytes
    else Err Kind

-- the message of a child process that the body is, or its first fault
unfoldable pub from_child_of : List ℕ → Result FromChildMessage ChildFault
from_child_of [] = Err Short
from_child_of (kind ∷ bytes) = from_child_of_kind kind bytes

-- SIGN: ask, private key, key blob, message, flags
abbrev pub sign_at : List ℕ → Result ToChildMessage ChildFault
sign_at bytes = field_then (uint64_at bytes) (λ ask after_ask.
    field_then (string_at after_ask) (λ private after_private.
    field_then (string_at after_private) (λ blob after_blob.
    field_then (string_at after_blob) (λ message after_message.
    field_then (uint32_at after_message) (λ flags rest.
    ended (Sign record { ask = ask; private = private; blob = blob; message = message; flags = flags }) rest)))))

-- VERIFY: ask, host key, signature, session identifier
abbrev pub verify_at : List ℕ → Result ToChildMessage ChildFault
verify_at bytes = field_then (uint64_at bytes) (λ ask after_ask.
    field_then (string_at after_ask) (λ host_key after_key.
    field_then (string_at after_key) (λ signature after_signature.
    field_then (string_at after_signature) (λ session rest.
    ended (Verify record { ask = ask; host_key = host_key; signature = signature; session = session }) rest))))

-- CONFIRM: job, prompt
abbrev pub confirm_at : List ℕ → Result ToChildMessage ChildFault
confirm_at bytes = field_then (uint64_at bytes) (λ job more.
    field_then (string_at more) (λ prompt rest. ended (Confirm job prompt) rest))

-- what follows a kind to a child process
unfoldable pub to_child_of_kind : ℕ → List ℕ → Result ToChildMessage ChildFault
to_child_of_kind kind bytes =
    if kind == 1 then sign_at bytes
    else if kind == 2 then verify_at bytes
    else if kind == 3 then confirm_at bytes
    else Err Kind

-- the message to a child process that the body is, or its first fault
unfoldable pub to_child_of : List ℕ → Result ToChildMessage ChildFault
to_child_of [] = Err Short
to_child_of (kind ∷ bytes) = to_child_of_kind kind bytes
