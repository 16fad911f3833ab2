-- What the code tells of requests (ours).
use Rattle.std.specs.Prelude.{◌≡◌, ℕ, ◌+◌, ◌≤◌, Bool, true, false, not, List, Option, None, Some, IfSome, length, Ok}
use Rattle.identity_table.specs.Identities.{HeldKey, TableState}
use Rattle.dest_rule.specs.Hosts.{login_host}
use Rattle.agent_msg.specs.Requests.{ClientRequest, ListIdentities, Sign, Add, Remove, RemoveAll, Lock, Unlock, Bind, OtherExtension, Unsupported}
use Rattle.wire_text.specs.Bounds.{longest_body}
use Rattle.agent_model.specs.Binds.{agent_request_of, and_host_key}
use Rattle.agent_model.specs.Dispatch.{Asker, Served, sees, serve}
use Rattle.agent_model.specs.KeyStates.{KeyState}
use Rattle.agent_model.specs.Actions.{Work}
use Rattle.agent_model.specs.State.{Nothing, Port, UnderWay}
use Rattle.agent_model.specs.Step.{asker_at}
use Rattle.agent_model.specs.Errands.{Signs, ask_user, put_ask}
use Rattle.agent_model.specs.Verdicts.{Awaits, Verdict, verdict_text, verdict_waits}
use Rattle.agent_core.specs.declared.waits.Waits.{Waits as CoreWaits}
use Rattle.agent_core.specs.Slots.{waits_of}
use Rattle.agent_msg.specs.Replies.{failure, status}
use Rattle.wire_text.specs.Frames.{front_body}
use Rattle.agent_core.specs.declared.asker.Asker.{Asker as CoreAsker}

-- who asks, as the code tells it; the second is the greatest that the table knows
abbrev pub asker_of : CoreAsker → KeyState → Asker
asker_of asker held = record {
  port = asker.port;
  chain = asker.chain.now.bindings;
  attempted = asker.chain.now.attempted;
  mono = held.table.greatest;
  wall = asker.wall;
}

-- what is held, from its parts
abbrev pub keys_of : TableState → Option (List ℕ) → KeyState
keys_of table lock = record { table = table; lock = lock }

-- what comes of its request, whose fields were read
abbrev pub served_by : CoreAsker → ClientRequest → KeyState → UnderWay → Served
served_by asker request held under_way = serve (and_host_key (Ok request)) (asker_of asker held) held under_way

-- what comes of the request of this body
abbrev pub served_body : CoreAsker → List ℕ → KeyState → UnderWay → Served
served_body asker body held under_way = serve (agent_request_of body) (asker_of asker held) held under_way

-- what comes of the first request of a client, with a body of this length, at this second of the wall clock
abbrev pub served_at : ℕ → ℕ → Port → KeyState → UnderWay → Served
served_at body_len wall port held under_way = serve (agent_request_of (front_body body_len port.heard))
    (asker_at (record { mono = held.table.greatest; wall = wall }) port) held under_way

-- an identity is held that the asker doesn't see
abbrev pub hides : Option HeldKey → Asker → Bool
hides None asker = false
hides (Some key) asker = not (sees asker key)

-- a request to bind
abbrev pub binds : List ℕ → List ℕ → List ℕ → Bool → ClientRequest
binds host_key session signature forwarding =
    Bind record { host_key = host_key; session = session; signature = signature; forwarding = forwarding }

-- what comes of a signature with this key for this asker, by whether the user is to be asked
abbrev pub sign_work : Bool → CoreAsker → HeldKey → List ℕ → ℕ → UnderWay → Work
sign_work true asker key message flags under_way =
    ask_user key (login_host key.rules key.blob asker.chain.now.bindings message asker.wall)
    (record { blob = key.blob; message = message; flags = flags }) asker.port under_way
sign_work false asker key message flags under_way =
    put_ask (Signs key (record { blob = key.blob; message = message; flags = flags })) asker.port under_way

-- what is told of a verdict: what is waited for, or nothing where it is a refusal
abbrev pub TellsWait : Verdict → Option CoreWaits → Type 0
TellsWait verdict (Some waits) = verdict ≡ Awaits (waits_of waits)
TellsWait verdict None = (verdict_text verdict ≡ failure) × (verdict_waits verdict ≡ Nothing)

-- a status reply is all that comes of a request: nothing is put to the helper, and nothing waited for
pub record IsStatus (done : Bool) (work : Work) (before : UnderWay) : Type 0 where
  pub text : status done ≡ verdict_text work.verdict
  pub waits : verdict_waits work.verdict ≡ Nothing
  pub under_way : work.under_way ≡ before

-- what the agent would hold of a request isn't long
abbrev pub IsShortRequest : ClientRequest → Type 0
IsShortRequest ListIdentities = Unit {0}
IsShortRequest (Sign signing) = length signing.blob + length signing.message ≤ longest_body
IsShortRequest (Add addition) = length addition.key.private ≤ longest_body
IsShortRequest (Remove blob) = Unit {0}
IsShortRequest RemoveAll = Unit {0}
IsShortRequest (Lock passphrase) = length passphrase ≤ longest_body
IsShortRequest (Unlock passphrase) = Unit {0}
IsShortRequest (Bind bind) = length bind.host_key + length bind.session + length bind.signature ≤ longest_body
IsShortRequest (OtherExtension name) = Unit {0}
IsShortRequest (Unsupported number) = Unit {0}

-- where it is an addition whose uses are limited, it may be used
abbrev pub IsUsableRequest : ClientRequest → Type 0
IsUsableRequest ListIdentities = Unit {0}
IsUsableRequest (Sign signing) = Unit {0}
IsUsableRequest (Add addition) = IfSome addition.terms.uses (λ uses. 1 ≤ uses)
IsUsableRequest (Remove blob) = Unit {0}
IsUsableRequest RemoveAll = Unit {0}
IsUsableRequest (Lock passphrase) = Unit {0}
IsUsableRequest (Unlock passphrase) = Unit {0}
IsUsableRequest (Bind bind) = Unit {0}
IsUsableRequest (OtherExtension name) = Unit {0}
IsUsableRequest (Unsupported number) = Unit {0}

-- the request is no list, and nothing is put to the helper for it
abbrev pub IsPlainRequest : ClientRequest → Type 0
IsPlainRequest ListIdentities = ⊥
IsPlainRequest (Sign signing) = ⊥
IsPlainRequest (Add addition) = Unit {0}
IsPlainRequest (Remove blob) = Unit {0}
IsPlainRequest RemoveAll = Unit {0}
IsPlainRequest (Lock passphrase) = Unit {0}
IsPlainRequest (Unlock passphrase) = Unit {0}
IsPlainRequest (Bind bind) = ⊥
IsPlainRequest (OtherExtension name) = Unit {0}
IsPlainRequest (Unsupported number) = Unit {0}
