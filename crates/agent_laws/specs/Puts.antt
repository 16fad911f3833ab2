-- The messages that are put to the helper are those of the asks that the actions tell, and nothing else is appended to
-- what the helper is owed (ours). It is said over any list of events.
use Rattle.std.specs.Prelude.{◌≡◌, ◌≢◌, List, [], ◌∷◌, ◌++◌, length, Some, Ok}
use Rattle.world_ports.specs.declared.Moment.{Moment}
use Rattle.agent_msg.specs.Requests.{Bind, BindRequest, Signing}
use Rattle.child_msg.specs.ChildFrames.{to_child_body}
use Rattle.child_msg.specs.Messages.{ToChildMessage}
use Rattle.helper_link.specs.HelperLink.{sign_request, verify_request}
use Rattle.agent_model.specs.Actions.{Asked, Asking, ForBinding, ForSignature, Requested, Requesting}
use Rattle.agent_model.specs.Binds.{agent_request_of}
use Rattle.agent_model.specs.Errands.{binding_of}
use Rattle.agent_model.specs.Events.{Timed}
use Rattle.agent_model.specs.Runs.{Stamped, history, run}
use Rattle.agent_model.specs.State.{State}
use Rattle.agent_model.specs.Step.{step}
use Rattle.agent_secrecy.specs.Frames.{Appends}
use Rattle.agent_laws.specs.Past.{PastAddition, last_addition}

-- the message is that of an ask behind this past, the newest action first: for a signature with the ask's number, what is
-- to be signed, and the private string of the last addition of the key, which nothing removed since; for a verification
-- with the ask's number and what the client's request to bind, the newest action, has
pub data IsMessage (past : List Stamped) (asking : Asking) : ToChildMessage → Type 0 where
  signs : (signing : Signing) (added : PastAddition) → asking.purpose ≡ ForSignature signing
      → last_addition signing.blob past ≡ Some added
      → IsMessage past asking (sign_request added.addition.key.private signing.blob signing.message signing.flags asking.ask)
  verifies : (bind : BindRequest) (moment : Moment) (requesting : Requesting) (before : List Stamped)
      → asking.purpose ≡ ForBinding (binding_of bind)
      → past ≡ record { moment = moment; action = Requested requesting } ∷ before
      → requesting.port ≡ asking.port → agent_request_of requesting.body ≡ Ok (Bind bind)
      → IsMessage past asking (verify_request bind.host_key bind.signature bind.session asking.ask)

-- of these actions, the oldest first, behind those of the past, the newest first, each ask has its message, of its size, in
-- their order, and nothing else has one
pub data ArePut : List Stamped → List Stamped → List ToChildMessage → Type 0 where
  none : (past : List Stamped) → ArePut past [] []
  asks : (past : List Stamped) (moment : Moment) (asking : Asking) (later : List Stamped) (message : ToChildMessage)
      (messages : List ToChildMessage) → IsMessage past asking message
      → asking.size ≡ length (to_child_body message)
      → ArePut (record { moment = moment; action = Asked asking } ∷ past) later messages
      → ArePut past (record { moment = moment; action = Asked asking } ∷ later) (message ∷ messages)
  passes : (past : List Stamped) (one : Stamped) (later : List Stamped) (messages : List ToChildMessage)
      → ((asking : Asking) → one.action ≢ Asked asking) → ArePut (one ∷ past) later messages
      → ArePut past (one ∷ later) messages

-- all messages that are put in these events, in order
abbrev pub messages_of : State → List Timed → List ToChildMessage
messages_of state [] = []
messages_of state (timed ∷ later) =
    (step state timed.moment timed.event).put ++ messages_of (step state timed.moment timed.event).state later

-- what is put is what the actions ask for, and an event appends the frames of what it puts, and nothing else, to what is
-- left of what the helper was owed
pub record IsPutAsAsked (first : State) (events : List Timed) : Type 0 where
  pub messages : ArePut [] (history first events) (messages_of first events)
  pub frames : (before : List Timed) (one : Timed) (later : List Timed) → before ++ one ∷ later ≡ events
      → Appends (run first before) (step (run first before) one.moment one.event)
