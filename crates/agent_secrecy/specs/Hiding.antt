-- A state without its secrets: private fields of held keys, what clients sent that isn't taken, and what the helper is
-- owed are blanked. By which functions is left open: `key` for an addition, `heard` for what a client of a number sent.
use Rattle.std.specs.Prelude.{ℕ, List, map, Option, Result, Ok, Err}
use Rattle.world_ports.specs.declared.Door.{Door}
use Rattle.world_ports.specs.declared.Door.TheVariants.{Clients, Children}
use Rattle.identity_table.specs.Identities.{HeldKey, TableState}
use Rattle.agent_msg.specs.declared.fault.MsgFault.{MsgFault}
use Rattle.agent_msg.specs.Requests.{Addition, ClientRequest, ListIdentities, Sign, Add, Remove, RemoveAll, Lock, Unlock, Bind, OtherExtension, Unsupported}
use Rattle.child_msg.specs.Messages.{ToChildMessage, Sign as SignMessage, Verify, Confirm}
use Rattle.helper_link.specs.HelperLink.{HelperLink}
use Rattle.agent_model.specs.Actions.{Outcome, Work}
use Rattle.agent_model.specs.Dispatch.{Served}
use Rattle.agent_model.specs.Errands.{Errand, Signs, Verifies}
use Rattle.agent_model.specs.KeyStates.{KeyState}
use Rattle.agent_model.specs.State.{Port, State, UnderWay}
use Rattle.agent_model.specs.Verdicts.{Verdict}
use Rattle.agent_secrecy.specs.Secrets.{blank}

-- ---- keys

-- a held key whose private fields are what `key` makes of them
abbrev pub hide_key : (List ℕ → List ℕ) → HeldKey → HeldKey
hide_key key held = record held { private = key held.private }

-- the table with each held key hidden
abbrev pub hide_table : (List ℕ → List ℕ) → TableState → TableState
hide_table key table = record table { identities = map (hide_key key) table.identities }

-- the table hidden, and the lock as it is
abbrev pub hide_held : (List ℕ → List ℕ) → KeyState → KeyState
hide_held key held = record held { table = hide_table key held.table }

-- an addition whose private fields are what `key` makes of them
abbrev pub hide_addition : (List ℕ → List ℕ) → Addition → Addition
hide_addition key addition = record addition { key = record addition.key { private = key addition.key.private } }

-- a request, of which an addition alone has anything to hide
abbrev pub hide_request : (List ℕ → List ℕ) → ClientRequest → ClientRequest
hide_request key ListIdentities = ListIdentities
hide_request key (Sign signing) = Sign signing
hide_request key (Add addition) = Add (hide_addition key addition)
hide_request key (Remove blob) = Remove blob
hide_request key RemoveAll = RemoveAll
hide_request key (Lock passphrase) = Lock passphrase
hide_request key (Unlock passphrase) = Unlock passphrase
hide_request key (Bind bind) = Bind bind
hide_request key (OtherExtension name) = OtherExtension name
hide_request key (Unsupported number) = Unsupported number

-- what was read of a body: a request hidden, or the fault that refused it
abbrev pub hide_read : (List ℕ → List ℕ) → Result ClientRequest MsgFault → Result ClientRequest MsgFault
hide_read key (Ok request) = Ok (hide_request key request)
hide_read key (Err fault) = Err fault

-- ---- what is put to the helper

-- an errand of the helper, of which the key that is to sign is hidden
abbrev pub hide_errand : (List ℕ → List ℕ) → Errand → Errand
hide_errand key (Signs held signing) = Signs (hide_key key held) signing
hide_errand key (Verifies bind is_new) = Verifies bind is_new

-- a message to a child process, of which private fields alone are hidden
abbrev pub hide_message : (List ℕ → List ℕ) → ToChildMessage → ToChildMessage
hide_message key (SignMessage signing) = SignMessage (record signing { private = key signing.private })
hide_message key (Verify verification) = Verify verification
hide_message key (Confirm job prompt) = Confirm job prompt

-- the link to the helper, with zeros for each byte that it is owed
abbrev pub hide_link : HelperLink → HelperLink
hide_link link = record link { owed = blank link.owed }

-- what is under way, of which the link alone has anything to hide
abbrev pub hide_under_way : UnderWay → UnderWay
hide_under_way under_way = record under_way { link = hide_link under_way.link }

-- ---- ports

-- what a client of this number sent; what a child process sent stays
abbrev pub hide_heard : (ℕ → List ℕ → List ℕ) → Door → ℕ → List ℕ → List ℕ
hide_heard heard Clients number bytes = heard number bytes
hide_heard heard Children number bytes = bytes

-- a port whose heard bytes are hidden if a client sent them
abbrev pub hide_port : (ℕ → List ℕ → List ℕ) → Port → Port
hide_port heard port = record port { heard = hide_heard heard port.door port.number port.heard }

-- each of the ports, hidden
abbrev pub hide_ports : (ℕ → List ℕ → List ℕ) → List Port → List Port
hide_ports heard ports = map (hide_port heard) ports

-- a state with its keys, what is under way and its ports hidden
abbrev pub hide_state : (List ℕ → List ℕ) → (ℕ → List ℕ → List ℕ) → State → State
hide_state key heard state = record state {
  held = hide_held key state.held;
  under_way = hide_under_way state.under_way;
  ports = hide_ports heard state.ports;
}

-- ---- what comes of an event, without its actions

-- what is seen of the work that a request makes: no actions, and its messages hidden
pub record SeenWork : Type 0 where
  pub under_way : UnderWay
  pub verdict : Verdict
  pub put : List ToChildMessage
  pub used : Option ℕ

-- what is seen of a request that was served: the keys as it leaves them, and its work
pub record SeenServed : Type 0 where
  pub held : KeyState
  pub work : SeenWork

-- what is seen of an outcome: the state, the messages put to the helper and the ports that are closed
pub record Seen : Type 0 where
  pub state : State
  pub put : List ToChildMessage
  pub closes : List ℕ

-- the work of a request, without secrets
abbrev pub work_seen : (List ℕ → List ℕ) → Work → SeenWork
work_seen key work = record {
  under_way = hide_under_way work.under_way;
  verdict = work.verdict;
  put = map (hide_message key) work.put;
  used = work.used;
}

-- a request that was served, without secrets
abbrev pub served_seen : (List ℕ → List ℕ) → Served → SeenServed
served_seen key served = record { held = hide_held key served.held; work = work_seen key served.work }

-- an outcome without secrets
abbrev pub seen : (List ℕ → List ℕ) → (ℕ → List ℕ → List ℕ) → Outcome → Seen
seen key heard outcome =
    record { state = hide_state key heard outcome.state; put = map (hide_message key) outcome.put; closes = outcome.closes }

-- of a run whose secrets were hidden before: what was appended to what the helper is owed is blanked
abbrev pub work_bare : Work → SeenWork
work_bare work = record {
  under_way = hide_under_way work.under_way;
  verdict = work.verdict;
  put = work.put;
  used = work.used;
}

-- a request that was served in a run whose secrets were hidden before
abbrev pub served_bare : Served → SeenServed
served_bare served = record { held = served.held; work = work_bare served.work }

-- an outcome of a run whose secrets were hidden before
abbrev pub bare : Outcome → Seen
bare outcome = record {
  state = record outcome.state { under_way = hide_under_way outcome.state.under_way };
  put = outcome.put;
  closes = outcome.closes;
}
