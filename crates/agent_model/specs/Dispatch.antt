-- What the agent answers to a request: the table of requests, a line a row. Source:
-- draft-miller-ssh-agent, "Protocol Messages"; OpenSSH's agent for what isn't served; OpenSSH's
-- PROTOCOL.agent for the request that binds a connection. Who sees which identity, and who is
-- asked, is ours.
use Rattle.std.specs.Prelude.{ℕ, ◌==◌, Bool, true, false, List, [], map, filter, Option, Some, None, Result, Ok, Err, if◌then◌else◌}
use Rattle.std.specs.Str.{bytes_eq}
use Rattle.identity_table.specs.Identities.{HeldKey, added, find_identity, identities_with, is_full, remove_identity}
use Rattle.agent_msg.specs.declared.fault.MsgFault.{MsgFault}
use Rattle.agent_msg.specs.declared.fault.MsgFault.TheVariants as fault
use Rattle.agent_msg.specs.Requests.{Addition, BindRequest, ClientRequest, Signing, ListIdentities, Sign, Add, Remove, RemoveAll, Lock, Unlock, Bind, OtherExtension, Unsupported}
use Rattle.agent_model.specs.KeyStates.{KeyState, after_use, shown}
use Rattle.agent_model.specs.Actions.{Work, settles}
use Rattle.agent_model.specs.Errands.{Signs, Verifies, ask_user, put_ask}
use Rattle.agent_model.specs.Limits.{last_number}
use Rattle.dest_rule.specs.Chains.{judge}
use Rattle.dest_rule.specs.Hosts.{login_host}
use Rattle.dest_rule.specs.declared.fault.Next.{Next as Judgement}
use Rattle.dest_rule.specs.declared.fault.Next.TheVariants.{New, Refuse, Same}
use Rattle.dest_rule.specs.Rules.{visible}
use Rattle.dest_rule.specs.declared.binding.Binding.{Binding}
use Rattle.agent_model.specs.Objections.{objection}
use Rattle.agent_model.specs.State.{UnderWay}
use Rattle.agent_model.specs.Verdicts.{Cause, Identities, Malformed, Locked, Unserved, NotHeld, NotVisible, Constraints, ListFull, NoPassphrase, WrongPassphrase, NotLocked, BindRefused, AdditionsSpent, Refuses, Replies, Reply, Success}

-- who asks, and when: the port, the hosts that its connection was bound to, whether it tried to
-- bind it, the greatest monotonic second so far, and the wall clock
pub record Asker : Type 0 where
  pub port : ℕ
  pub chain : List Binding
  pub attempted : Bool
  pub mono : ℕ
  pub wall : ℕ

-- what is held after a request, what is under way, and what the client gets
pub record Served : Type 0 where
  pub held : KeyState
  pub work : Work

-- the client is answered at once
abbrev pub answers : Reply → KeyState → UnderWay → Served
answers reply held under_way = record { held = held; work = settles (Replies reply) under_way }

-- the client is refused
abbrev pub refuses : Cause → KeyState → UnderWay → Served
refuses cause held under_way = record { held = held; work = settles (Refuses cause) under_way }

-- this comes of the request, and then the identity that was used for it has a use less
abbrev pub uses : KeyState → Work → Served
uses held work = record { held = after_use work.used held; work = work }

-- ---- who sees what

-- the asker sees this identity
abbrev pub sees : Asker → HeldKey → Bool
sees asker key = visible key.rules asker.chain asker.attempted asker.wall

-- the identities that it sees, as a list shows them
abbrev pub seen_by : Asker → KeyState → List (List ℕ × List ℕ)
seen_by asker held = map shown (filter (sees asker) held.table.identities)

-- ---- requests to sign

-- the host that the asker logs in to, by the identity's destination constraints
abbrev pub host_for : Asker → HeldKey → Signing → Option (List ℕ)
host_for asker key signing = login_host key.rules key.blob asker.chain signing.message asker.wall

-- a request to sign with a key that is held, by what its purposes and its destination constraints say,
-- and by whether the user is asked first
abbrev pub sign_unless : Option Cause → (confirm : Bool) → Asker → HeldKey → Signing → UnderWay → Work
sign_unless (Some cause) confirm asker key signing under_way = settles (Refuses cause) under_way
sign_unless None true asker key signing under_way =
    ask_user key (host_for asker key signing) signing asker.port under_way
sign_unless None false asker key signing under_way = put_ask (Signs key signing) asker.port under_way

-- a request to sign, by the identity that has its blob, where one is held
abbrev pub sign_by : Option HeldKey → Asker → Signing → UnderWay → Work
sign_by None asker signing under_way = settles (Refuses NotHeld) under_way
sign_by (Some key) asker signing under_way = sign_unless
    (objection key signing.blob asker.chain signing.message signing.flags asker.wall)
    key.confirm asker key signing under_way

-- ---- additions

-- why the table doesn't take it: the identities would be too many, or all numbers were given
abbrev pub add_fault : Bool → Bool → Option Cause
add_fault true spent = Some ListFull
add_fault false true = Some AdditionsSpent
add_fault false false = None

-- an addition is taken, unless the table has a cause not to
abbrev pub add_unless : Option Cause → Addition → ℕ → KeyState → UnderWay → Served
add_unless (Some cause) addition now held under_way = refuses cause held under_way
add_unless None addition now held under_way =
    let table = added held.table addition.key addition.terms addition.comment now in
    answers Success (record held { table = table }) under_way

-- an addition, by whether its asker sees the identity that it replaces
abbrev pub add_seen : Bool → Addition → ℕ → KeyState → UnderWay → Served
add_seen false addition now held under_way = refuses NotVisible held under_way
add_seen true addition now held under_way =
    let all = identities_with held.table addition.key addition.terms addition.comment now in
    add_unless (add_fault (is_full all) (held.table.last == last_number))
    addition now held under_way

-- an addition, by the identity that has its blob, where one is held
abbrev pub add_by : Option HeldKey → Asker → Addition → KeyState → UnderWay → Served
add_by None asker addition held under_way = add_seen true addition asker.mono held under_way
add_by (Some key) asker addition held under_way =
    add_seen (sees asker key) addition asker.mono held under_way

-- ---- removals

-- what is held, with these identities in the place of the others
abbrev pub with_identities : List HeldKey → KeyState → KeyState
with_identities identities held =
    record held { table = record held.table { identities = identities } }

-- a removal of an identity that is held, by whether its asker sees it
abbrev pub remove_seen : Bool → List ℕ → KeyState → UnderWay → Served
remove_seen false blob held under_way = refuses NotVisible held under_way
remove_seen true blob held under_way =
    answers Success (with_identities (remove_identity blob held.table.identities) held) under_way

-- a removal, by the identity that has its blob, where one is held
abbrev pub remove_by : Option HeldKey → Asker → List ℕ → KeyState → UnderWay → Served
remove_by None asker blob held under_way = refuses NotHeld held under_way
remove_by (Some key) asker blob held under_way = remove_seen (sees asker key) blob held under_way

-- ---- bindings

-- a request to bind, by what the connection's chain says of the binding
abbrev pub bind_by : Judgement → Asker → BindRequest → UnderWay → Work
bind_by (Refuse fault) asker bind under_way = settles (Refuses (BindRefused fault)) under_way
bind_by Same asker bind under_way = put_ask (Verifies bind false) asker.port under_way
bind_by New asker bind under_way = put_ask (Verifies bind true) asker.port under_way

-- ---- the table of requests

-- the table of requests of an agent that isn't locked
abbrev pub serve_unlocked : ClientRequest → Asker → KeyState → UnderWay → Served
serve_unlocked ListIdentities asker held under_way =
    answers (Identities (seen_by asker held)) held under_way
serve_unlocked (Sign signing) asker held under_way =
    uses held (sign_by (find_identity signing.blob held.table.identities) asker signing under_way)
serve_unlocked (Add addition) asker held under_way =
    add_by (find_identity addition.key.blob held.table.identities) asker addition held under_way
serve_unlocked (Remove blob) asker held under_way =
    remove_by (find_identity blob held.table.identities) asker blob held under_way
serve_unlocked RemoveAll asker held under_way = answers Success (with_identities [] held) under_way
serve_unlocked (Lock []) asker held under_way = refuses NoPassphrase held under_way
serve_unlocked (Lock passphrase) asker held under_way =
    answers Success (record held { lock = Some passphrase }) under_way
serve_unlocked (Unlock passphrase) asker held under_way = refuses NotLocked held under_way
serve_unlocked (Bind bind) asker held under_way =
    record { held = held; work = bind_by (judge bind.host_key bind.session asker.chain) asker bind under_way }
serve_unlocked (OtherExtension name) asker held under_way = refuses Unserved held under_way
serve_unlocked (Unsupported number) asker held under_way = refuses Unserved held under_way

-- the table of requests of an agent that is locked with this passphrase
abbrev pub serve_locked : List ℕ → ClientRequest → KeyState → UnderWay → Served
serve_locked passphrase ListIdentities held under_way = answers (Identities []) held under_way
serve_locked passphrase (Unlock other) held under_way =
    if bytes_eq passphrase other then answers Success (record held { lock = None }) under_way
    else refuses WrongPassphrase held under_way
serve_locked passphrase request held under_way = refuses Locked held under_way

-- the table of requests, by whether the agent is locked
abbrev pub serve_by : Option (List ℕ) → ClientRequest → Asker → KeyState → UnderWay → Served
serve_by None request asker held under_way = serve_unlocked request asker held under_way
serve_by (Some passphrase) request asker held under_way =
    serve_locked passphrase request held under_way

-- why a body that doesn't read is refused, by the lock: what else than constraints doesn't read is
-- malformed even where the agent is locked
abbrev pub unread : MsgFault → Option (List ℕ) → Cause
unread (fault.Terms term_fault) None = Constraints term_fault
unread (fault.Terms term_fault) (Some passphrase) = Locked
unread other lock = Malformed other

-- a request, as its body reads
abbrev pub serve : Result ClientRequest MsgFault → Asker → KeyState → UnderWay → Served
serve (Ok request) asker held under_way = serve_by held.lock request asker held under_way
serve (Err fault) asker held under_way = refuses (unread fault held.lock) held under_way
