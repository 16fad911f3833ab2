-- What a book holds of a client is what the agent holds of it: the bytes that nothing has taken yet, and the request that
-- it waits for.
use Rattle.std.proofs.Common.{◌≡◌, ◌≢◌, ℕ, ◌+◌, ◌<◌, ◌≤◌, List, [], ◌∷◌, ◌++◌, length, refl, ap, arith, sym, ◌∙◌, Some, Result, Ok, Err}
use Rattle.std.specs.List.{cons_option}
use Rattle.std.specs.Option.{option_map}
use Rattle.world_ports.specs.declared.Door.TheVariants.{Clients}
use Rattle.wire_text.specs.Bounds.{longest_body}
use Rattle.wire_text.specs.Frames.{Front, IsBody, More, front}
use Rattle.wire_text.specs.Wire.{string, uint32}
use Rattle.wire_text.proofs.WireLemmas.{length-string}
use Rattle.key_blob.specs.PublicKeys.{KeyParts, public_key_of}
use Rattle.key_blob.specs.declared.fault.KeyFault.{KeyFault}
use Rattle.agent_msg.specs.Replies.{entries}
use Rattle.agent_msg.specs.Requests.{Add, Bind, ClientRequest, ListIdentities, Lock, OtherExtension, Remove, RemoveAll, Sign, Unlock, Unsupported}
use Rattle.agent_msg.specs.declared.fault.MsgFault.{MsgFault}
use Rattle.agent_model.specs.Binds.{and_host_key, bind_with}
use Rattle.agent_model.specs.Events.{Timed}
use Rattle.agent_model.specs.State.{Nothing, Port, State, find_port}
use Rattle.agent_model.specs.Step.{step}
use Rattle.agent_model.specs.Time.{at_moment}
use Rattle.agent_model.specs.Verdicts.{Awaits, Identities, Refuses, Replies, Reply, Signature, Success, Verdict, verdict_text, verdict_waits}
use Rattle.log_book.specs.Peers.{Peer, looked, looked_by, read_next}
use Rattle.log_book.specs.Requests.{asked_by, next_by, next_in}
use Rattle.log_book.specs.declared.told.Asked.{Asked}
use Rattle.log_book.specs.declared.told.Asked.TheVariants as asks
use Rattle.log_laws.specs.Reads.{Reading}
use Rattle.log_laws.specs.Reads as reads
use Rattle.log_laws.proofs.BookLemmas.{IsAlike, claim_by}
use Rattle.log_laws.proofs.TurnLemmas.{Turns, gets, rests}

-- a client that waits for nothing and has nothing to take, one that waits, or one that has the rest of a reply to take
pub data Client (port : Port) (peer : Peer) : Type 0 where
  idle : port.waits ≡ Nothing → port.owed ≡ [] → peer.sent ≡ port.heard → peer.given ≡ []
      → peer.asked ≡ asks.Nothing → front longest_body port.heard ≡ More → Client port peer
  waiting : port.waits ≢ Nothing → port.owed ≡ [] → peer.sent ≡ port.heard → peer.given ≡ []
      → peer.asked ≢ asks.Nothing → Client port peer
  taking : (body : List ℕ) → port.waits ≡ Nothing → port.owed ≢ [] → peer.sent ≡ port.heard
      → peer.asked ≢ asks.Nothing → IsBody longest_body body → peer.given ++ port.owed ≡ string body → Client port peer

pub client-alike : {port : Port} {one other : Peer} → IsAlike one other → Client port one → Client port other
client-alike is (idle nothing unowed sent given none more) =
    idle nothing unowed (is.sent ∙ sent) (is.given ∙ given) (is.asked ∙ none) more
client-alike is (waiting on unowed sent given some) =
    waiting on unowed (is.sent ∙ sent) (is.given ∙ given) (λ none. some (sym is.asked ∙ none))
client-alike {port = port} is (taking body nothing owed sent some fits text) =
    taking body nothing owed (is.sent ∙ sent) (λ none. some (sym is.asked ∙ none)) fits
    (ap (λ given. given ++ port.owed) is.given ∙ text)

-- ---- replies

-- a reply is a frame, of a body that has a first byte
record IsReply (text : List ℕ) : Type 0 where
  body : List ℕ
  is : text ≡ string body
  some : 0 < length body

is_reply : (reply : Reply) → IsReply (verdict_text (Replies reply))
is_reply Success = record { body = 6 ∷ []; is = refl; some = omega arith }
is_reply (Identities identities) =
    record { body = 12 ∷ (uint32 (length identities) ++ entries identities); is = refl; some = omega arith }
is_reply (Signature signature) = record { body = 14 ∷ string signature; is = refl; some = omega arith }

-- what a client may be owed at the most: a frame of the longest body
abbrev pub most_owed : ℕ
most_owed = 4 + longest_body

reply-client : (port : Port) (peer : Peer) {text : List ℕ} → IsReply text → port.owed ≡ text → port.waits ≡ Nothing
    → peer.sent ≡ port.heard → peer.given ≡ [] → peer.asked ≢ asks.Nothing → length port.owed ≤ most_owed
    → Client port peer
reply-client port peer reply owes nothing sent given some short =
    let frame : port.owed ≡ string reply.body = owes ∙ reply.is in
    let size : length port.owed ≡ 4 + length reply.body = ap length frame ∙ length-string reply.body in
    taking reply.body nothing (λ none. absurd (let zero : length port.owed ≡ 0 = ap length none in omega (arith, size, zero)))
    sent some record { some = reply.some; within = omega (arith, size, short) }
    (ap (λ g. g ++ port.owed) given ∙ frame)

pub told-client : (port : Port) (peer : Peer) (verdict : Verdict) → port.owed ≡ verdict_text verdict
    → port.waits ≡ verdict_waits verdict → verdict ≢ Awaits Nothing → peer.sent ≡ port.heard → peer.given ≡ []
    → peer.asked ≢ asks.Nothing → length port.owed ≤ most_owed → Client port peer
told-client port peer (Replies reply) owes on any sent given some short =
    reply-client port peer (is_reply reply) owes on sent given some short
told-client port peer (Refuses cause) owes on any sent given some short =
    reply-client port peer record { body = 5 ∷ []; is = refl; some = omega arith } owes on sent given some short
told-client port peer (Awaits waits) owes on any sent given some short =
    waiting (λ nothing. any (ap Awaits (sym on ∙ nothing))) owes sent given some

-- what a turn leaves
pub client-turned : {may : Type 0} {old new : Port} {peer : Peer} → Client old peer → Turns may old (Some new)
    → length new.owed ≤ most_owed → Client new peer
client-turned client rests short = client
client-turned (idle nothing unowed sent given none more) (gets new verdict waits owed door heard owes on any) short =
    absurd (waits nothing)
client-turned {peer = peer} (waiting on_it unowed sent given some) (gets new verdict waits owed door heard owes on any) short =
    told-client new peer verdict owes on any (sent ∙ sym heard) given some short
client-turned (taking body nothing owes_some sent some fits text) (gets new verdict waits owed door heard owes on any) short =
    absurd (waits nothing)

-- no client is owed more than a frame of the longest message
abbrev pub IsBrief : State → Type 0
IsBrief state = (number : ℕ) (port : Port) → find_port number state.ports ≡ Some port → port.door ≡ Clients
    → length port.owed ≤ most_owed

-- so in each state that these events lead to, and that their moments do
abbrev pub AreBrief : State → List Timed → Type 0
AreBrief state [] = Unit {0}
AreBrief state (timed ∷ later) = IsBrief (at_moment timed.moment state)
    × IsBrief (step state timed.moment timed.event).state × AreBrief (step state timed.moment timed.event).state later

-- ---- the book reads

pub looked-busy : (wall : ℕ) (peer : Peer) → peer.asked ≢ asks.Nothing → looked wall peer ≡ peer
unfolding looked
looked-busy wall peer some = by_asked peer.asked refl
  where
    by_asked : (is : Asked) → peer.asked ≡ is → looked_by wall is peer ≡ peer
    by_asked asks.Nothing is = absurd (some is)
    by_asked (asks.Signing blob message) is = refl
    by_asked (asks.Adding blob comment) is = refl
    by_asked asks.Other is = refl

pub looked-idle : (wall : ℕ) (peer : Peer) → peer.asked ≡ asks.Nothing
    → looked wall peer ≡ read_next wall (next_in peer.sent) peer
unfolding looked
looked-idle wall peer none = ap (λ a. looked_by wall a peer) none

pub next-by : (bytes : List ℕ) (at : Front) → front longest_body bytes ≡ at → next_in bytes ≡ next_by at bytes
unfolding next_in
next-by bytes at is = ap (λ f. next_by f bytes) is

-- ---- what is read

-- a request that was read is under way
pub asked-some : (read : Result ClientRequest MsgFault) → asked_by read ≢ asks.Nothing
asked-some (Ok ListIdentities) none = absurd (cc)
asked-some (Ok (Sign signing)) none = absurd (cc)
asked-some (Ok (Add addition)) none = absurd (cc)
asked-some (Ok (Remove blob)) none = absurd (cc)
asked-some (Ok RemoveAll) none = absurd (cc)
asked-some (Ok (Lock passphrase)) none = absurd (cc)
asked-some (Ok (Unlock passphrase)) none = absurd (cc)
asked-some (Ok (Bind bind)) none = absurd (cc)
asked-some (Ok (OtherExtension name)) none = absurd (cc)
asked-some (Ok (Unsupported number)) none = absurd (cc)
asked-some (Err fault) none = absurd (cc)

-- the book and the agent read a body alike
pub claim-read : (wall : ℕ) (read : Result ClientRequest MsgFault) (later : List Reading) → later ≡ []
    → cons_option (option_map (reads.read_at wall) (reads.asked_by (and_host_key read))) later ≡ claim_by (asked_by read) wall
claim-read wall (Ok ListIdentities) later none = none
claim-read wall (Ok (Sign signing)) later none = ap (λ (l : List Reading). reads.read_at wall signing ∷ l) none
claim-read wall (Ok (Add addition)) later none = none
claim-read wall (Ok (Remove blob)) later none = none
claim-read wall (Ok RemoveAll) later none = none
claim-read wall (Ok (Lock passphrase)) later none = none
claim-read wall (Ok (Unlock passphrase)) later none = none
claim-read wall (Ok (Bind bind)) later none = by_key (public_key_of bind.host_key)
  where
    by_key : (read : Result KeyParts KeyFault) → cons_option (option_map (reads.read_at wall) (reads.asked_by (bind_with bind read))) later ≡ []
    by_key (Ok key) = none
    by_key (Err fault) = none
claim-read wall (Ok (OtherExtension name)) later none = none
claim-read wall (Ok (Unsupported number)) later none = none
claim-read wall (Err fault) later none = none
