-- What is put to the helper for a client is what its last request asks for (ours).
use Rattle.std.specs.Prelude.{◌≡◌, ℕ, List, Option, None, Some, Result, Ok, Err}
use Rattle.agent_model.specs.Actions.{Asked, Asking, ForBinding, ForSignature, Purpose}
use Rattle.agent_model.specs.Binds.{agent_request_of}
use Rattle.agent_model.specs.Errands.{binding_of}
use Rattle.agent_model.specs.Events.{Timed}
use Rattle.agent_model.specs.Grants.{IsAmong}
use Rattle.agent_model.specs.Runs.{history}
use Rattle.agent_model.specs.State.{Settings, first_state}
use Rattle.agent_msg.specs.Requests.{Add, Bind, ClientRequest, ListIdentities, Lock, OtherExtension, Remove, RemoveAll, Sign, Unlock, Unsupported}
use Rattle.agent_msg.specs.declared.fault.MsgFault.{MsgFault}
use Rattle.log_laws.specs.Ends.{Request, last_request}

-- what is put for a request: the very signature that it asks for, by blob, message and flags, or the verification of
-- the very binding
abbrev pub purpose_in : ClientRequest → Option Purpose
purpose_in ListIdentities = None
purpose_in (Sign signing) = Some (ForSignature signing)
purpose_in (Add addition) = None
purpose_in (Remove blob) = None
purpose_in RemoveAll = None
purpose_in (Lock passphrase) = None
purpose_in (Unlock passphrase) = None
purpose_in (Bind bind) = Some (ForBinding (binding_of bind))
purpose_in (OtherExtension name) = None
purpose_in (Unsupported number) = None

-- by the reading of its body
abbrev pub purpose_by : Result ClientRequest MsgFault → Option Purpose
purpose_by (Ok request) = purpose_in request
purpose_by (Err fault) = None

-- each ask that was put for a client since its last request, at once or behind the user's consent, is for what that
-- request asks for
abbrev pub PutsWhatWasRead : Settings → List Timed → Type 0
PutsWhatWasRead settings events = (port : ℕ) (request : Request) (asking : Asking)
    → last_request port (history (first_state settings) events) ≡ Some request
    → IsAmong (Asked asking) request.later → asking.port ≡ port
    → purpose_by (agent_request_of request.body) ≡ Some asking.purpose
