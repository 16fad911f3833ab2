-- Bodies and states as redaction leaves them, where passphrases are renamed by any function (ours).
use Rattle.std.specs.Prelude.{◌≡◌, ℕ, List, [], ◌∷◌, ◌++◌, length, drop, Result, Ok, Err}
use Rattle.std.specs.Option.{option_map}
use Rattle.wire_text.specs.Wire.{string}
use Rattle.agent_msg.specs.Reading.{request_of}
use Rattle.agent_msg.specs.Requests.{ClientRequest, ListIdentities, Sign, Add, Remove, RemoveAll, Lock, Unlock, Bind, OtherExtension, Unsupported}
use Rattle.agent_msg.specs.declared.fault.MsgFault.{MsgFault}
use Rattle.redact_core.specs.Redaction.{holds_secrets, unread, without_secrets}
use Rattle.agent_model.specs.Actions.{Outcome}
use Rattle.agent_model.specs.Dispatch.{Served}
use Rattle.agent_model.specs.KeyStates.{KeyState}
use Rattle.agent_model.specs.State.{State}
use Rattle.agent_secrecy.specs.Hiding.{Seen, hide_state, seen}
use Rattle.agent_secrecy.specs.Secrets.{hidden}

-- passphrases that differ are renamed to others, and the empty one isn't renamed
pub record IsRenaming (rename : List ℕ → List ℕ) : Type 0 where
  pub one_to_one : (a b : List ℕ) → rename a ≡ rename b → a ≡ b
  pub empty : rename [] ≡ []

-- ---- bodies

-- the body behind whose number these bytes stand, by the request that it is
abbrev pub renamed_as : (List ℕ → List ℕ) → Result ClientRequest MsgFault → ℕ → List ℕ → List ℕ
renamed_as rename (Ok (Add addition)) number bytes =
    number ∷ (without_secrets addition.key.private ++ drop (length addition.key.private) bytes)
renamed_as rename (Ok (Lock passphrase)) number bytes = number ∷ string (rename passphrase)
renamed_as rename (Ok (Unlock passphrase)) number bytes = number ∷ string (rename passphrase)
renamed_as rename (Ok ListIdentities) number bytes = number ∷ bytes
renamed_as rename (Ok (Sign signing)) number bytes = number ∷ bytes
renamed_as rename (Ok (Remove blob)) number bytes = number ∷ bytes
renamed_as rename (Ok RemoveAll) number bytes = number ∷ bytes
renamed_as rename (Ok (Bind bind)) number bytes = number ∷ bytes
renamed_as rename (Ok (OtherExtension name)) number bytes = number ∷ bytes
renamed_as rename (Ok (Unsupported other)) number bytes = number ∷ []
renamed_as rename (Err fault) number bytes = unread (holds_secrets number) number bytes

-- a body with zeros for private fields and other passphrases, or its number alone
abbrev pub renamed : (List ℕ → List ℕ) → List ℕ → List ℕ
renamed rename [] = []
renamed rename (number ∷ bytes) = renamed_as rename (request_of (number ∷ bytes)) number bytes

-- ---- states

-- locked with the passphrase's other name
abbrev pub relocked : (List ℕ → List ℕ) → KeyState → KeyState
relocked rename held = record { table = held.table; lock = option_map rename held.lock }

-- what comes of a request, with the lock under the passphrase's other name
abbrev pub served_as : (List ℕ → List ℕ) → Served → Served
served_as rename served = record { held = relocked rename served.held; work = served.work }

-- a state whose lock has the passphrase's other name
abbrev pub relocked_state : (List ℕ → List ℕ) → State → State
relocked_state rename state = record {
  held = relocked rename state.held;
  under_way = state.under_way;
  ports = state.ports;
  last_port = state.last_port;
  moment = state.moment;
}

-- an outcome whose state has the passphrase's other name
abbrev pub relocked_outcome : (List ℕ → List ℕ) → Outcome → Outcome
relocked_outcome rename outcome = record {
  state = relocked_state rename outcome.state;
  actions = outcome.actions;
  put = outcome.put;
  closes = outcome.closes;
}

-- a request with the passphrase's other name
abbrev pub renamed_request : (List ℕ → List ℕ) → ClientRequest → ClientRequest
renamed_request rename ListIdentities = ListIdentities
renamed_request rename (Sign signing) = Sign signing
renamed_request rename (Add addition) = Add addition
renamed_request rename (Remove blob) = Remove blob
renamed_request rename RemoveAll = RemoveAll
renamed_request rename (Lock passphrase) = Lock (rename passphrase)
renamed_request rename (Unlock passphrase) = Unlock (rename passphrase)
renamed_request rename (Bind bind) = Bind bind
renamed_request rename (OtherExtension name) = OtherExtension name
renamed_request rename (Unsupported number) = Unsupported number

-- what was read of a body: a request with the passphrase's other name, or the fault that refused it
abbrev pub renamed_read : (List ℕ → List ℕ) → Result ClientRequest MsgFault → Result ClientRequest MsgFault
renamed_read rename (Ok request) = Ok (renamed_request rename request)
renamed_read rename (Err fault) = Err fault

-- ---- what is compared

-- of what clients sent, what is told of it
abbrev pub told_at : (List ℕ → List ℕ) → ℕ → List ℕ → List ℕ
told_at told number bytes = told bytes

-- what a client of any number sent, with nothing hidden
abbrev pub as_is : ℕ → List ℕ → List ℕ
as_is number bytes = bytes

-- a state without its secrets: passphrases by their other names, and of clients' bytes what is told
abbrev pub redacted_state : (List ℕ → List ℕ) → (List ℕ → List ℕ) → State → State
redacted_state rename told state = hide_state hidden (told_at told) (relocked_state rename state)

-- what comes of an event without its secrets, passphrases by their other names
abbrev pub redacted_seen : (List ℕ → List ℕ) → (List ℕ → List ℕ) → Outcome → Seen
redacted_seen rename told outcome = seen hidden (told_at told) (relocked_outcome rename outcome)

-- of a run of what is told: private fields are blanked as in the other
abbrev pub blanked_state : State → State
blanked_state state = hide_state hidden as_is state

-- an outcome of a run of what is told, with private fields blanked
abbrev pub blanked_seen : Outcome → Seen
blanked_seen outcome = seen hidden as_is outcome
