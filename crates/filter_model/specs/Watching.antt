-- What each pair ever heard, sent and was owed, and what that has to be (ours).
use Rattle.std.specs.Prelude.{◌≡◌, ℕ, suc, ◌==◌, ◌&&◌, Bool, true, false, List, [], ◌∷◌, ◌++◌, take, map, All, Option, Some, None, Result, Ok, Err, if◌then◌else◌, not}
use Rattle.std.specs.List.{filter, flat_map, list_any}
use Rattle.std.specs.Str.{bytes_eq}
use Rattle.std.specs.Option.{IfSome}
use Rattle.wire_text.specs.Wire.{IsBytes, string}
use Rattle.wire_text.specs.Frames.{IsBody, frames}
use Rattle.agent_msg.specs.Reading.{request_of}
use Rattle.agent_msg.specs.ReplyReading.{AgentReply, Failure, Success, Identities, Signature, reply_of}
use Rattle.agent_msg.specs.Replies.{failure, identities_answer}
use Rattle.agent_msg.specs.Requests.{ClientRequest, ListIdentities, Sign, Add, Remove, RemoveAll, Lock, Unlock, Bind, OtherExtension, Signing, Unsupported}
use Rattle.agent_msg.specs.declared.fault.MsgFault.{MsgFault}
use Rattle.agent_msg.specs.declared.agent_reply.ReplyFault.{ReplyFault}
use Rattle.pair_ports.specs.declared.side.Side.{Side}
use Rattle.pair_ports.specs.declared.side.Side.TheVariants.{Client, Upstream}
use Rattle.wire_text.specs.Bounds.{longest_body}
use Rattle.filter_model.specs.declared.waits.Waits.TheVariants.{Nothing, OnList, OnBind, OnReply}
use Rattle.filter_model.specs.declared.waits.Waits.{Waits}
use Rattle.key_purposes.specs.Messages.{are_for, is_by_sha1}
use Rattle.key_purposes.specs.declared.purpose.Purpose.{Purpose}
use Rattle.filter_model.specs.Lists.{Listed}
use Rattle.filter_model.specs.Pairs.{Pair, half_of, new_pair}
use Rattle.filter_model.specs.Filters.{AllFit, Connected, Ended, Happening, Heard, Joined, Lost, State, Took, find_pair, first_state, step, told}

-- ---- what a pair ever did

-- all bytes that were heard from a side, and all that were sent to it
pub record Stream : Type 0 where
  pub heard : List ℕ
  pub sent : List ℕ

-- nothing was heard, and nothing was sent
abbrev pub no_stream : Stream
no_stream = record { heard = []; sent = [] }

-- a pair as it stands, or as it stood just before its end, and its streams
pub record Watched : Type 0 where
  pub pair : Pair
  pub client : Stream
  pub upstream : Stream

-- a pair that has just joined
abbrev pub new_watched : Watched
new_watched = record { pair = new_pair; client = no_stream; upstream = no_stream }

-- the stream of a side
abbrev pub change_stream : Side → (Stream → Stream) → Watched → Watched
change_stream Client f watched = record watched { client = f watched.client }
change_stream Upstream f watched = record watched { upstream = f watched.upstream }

-- the stream with a piece more that was heard
abbrev pub with_heard : List ℕ → Stream → Stream
with_heard piece stream = record stream { heard = stream.heard ++ piece }

-- the stream with bytes more that were sent
abbrev pub with_sent : List ℕ → Stream → Stream
with_sent bytes stream = record stream { sent = stream.sent ++ bytes }

-- what an event of this pair adds to its streams
abbrev pub streamed : Happening → Pair → Watched → Watched
streamed Joined pair watched = watched
streamed (Connected number) pair watched = watched
streamed (Heard number side piece) pair watched = change_stream side (with_heard piece) watched
streamed (Took number side count) pair watched =
    change_stream side (with_sent (take count (half_of side pair).owed)) watched
streamed (Lost number) pair watched = watched
streamed (Ended number) pair watched = watched

-- an event of this pair, which is open or isn't
abbrev pub watch_open : Option Pair → Listed → Happening → Watched → Watched
watch_open None listed event watched = watched
watch_open (Some pair) listed event watched =
    record (streamed event pair watched) { pair = (told event listed pair).pair }

-- the same where it joined already
abbrev pub watch_old : State → ℕ → Happening → Option Watched → Option Watched
watch_old state number event None = None
watch_old state number event (Some watched) = Some (watch_open (find_pair number state.pairs) state.listed event watched)

-- where the event is of this pair
abbrev pub watch_if : Bool → State → ℕ → Happening → Option Watched → Option Watched
watch_if true state number event watched = watch_old state number event watched
watch_if false state number event watched = watched

-- what is known of the pair of this number, with one more event in this state
abbrev pub watch : State → ℕ → Option Watched → Happening → Option Watched
watch state number watched Joined = if number == suc state.last_pair then Some new_watched else watched
watch state number watched (Connected other) = watch_if (number == other) state number (Connected other) watched
watch state number watched (Heard other side piece) = watch_if (number == other) state number (Heard other side piece) watched
watch state number watched (Took other side count) = watch_if (number == other) state number (Took other side count) watched
watch state number watched (Lost other) = watch_if (number == other) state number (Lost other) watched
watch state number watched (Ended other) = watch_if (number == other) state number (Ended other) watched

-- the pair as the filter has it, where it is open: another pair's event may have taken a spare connection from it
abbrev pub seen_at : Option Pair → Option Watched → Option Watched
seen_at None watched = watched
seen_at (Some pair) None = None
seen_at (Some pair) (Some watched) = Some (record watched { pair = pair })

-- the same with more events
abbrev pub watched_on : ℕ → State → Option Watched → List Happening → Option Watched
watched_on number state watched [] = watched
watched_on number state watched (event ∷ later) =
    let after = step state event in
    watched_on number after (seen_at (find_pair number after.pairs) (watch state number watched event)) later

-- what is known of the pair of this number after these events of a new filter, where it joined
abbrev pub watched_of : ℕ → Listed → List Happening → Option Watched
watched_of number listed events = watched_on number (first_state listed) None events

-- ---- what that has to be

-- a message may be signed: no purposes are given, or it is for one of these and isn't signed by SHA-1
abbrev pub has_purpose : Option (List Purpose) → Signing → Bool
has_purpose None signing = true
has_purpose (Some purposes) signing =
    not (is_by_sha1 signing.blob signing.flags) && are_for purposes signing.message signing.blob

-- in the law's own words: a list, a bind, and a signature by a key that is listed for one of its purposes may pass
abbrev pub may_pass : Listed → Result ClientRequest MsgFault → Bool
may_pass listed (Ok ListIdentities) = true
may_pass listed (Ok (Sign signing)) = list_any (bytes_eq signing.blob) listed.blobs && has_purpose listed.purposes signing
may_pass listed (Ok (Bind bind)) = true
may_pass listed (Ok (Add addition)) = false
may_pass listed (Ok (Remove blob)) = false
may_pass listed (Ok RemoveAll) = false
may_pass listed (Ok (Lock passphrase)) = false
may_pass listed (Ok (Unlock passphrase)) = false
may_pass listed (Ok (OtherExtension name)) = false
may_pass listed (Ok (Unsupported number)) = false
may_pass listed (Err fault) = false

-- the body is a request that may pass
abbrev pub is_forwarded : Listed → List ℕ → Bool
is_forwarded listed body = may_pass listed (request_of body)

-- it is a bind
abbrev pub binds : Result ClientRequest MsgFault → Bool
binds (Ok ListIdentities) = false
binds (Ok (Sign signing)) = false
binds (Ok (Bind bind)) = true
binds (Ok (Add addition)) = false
binds (Ok (Remove blob)) = false
binds (Ok RemoveAll) = false
binds (Ok (Lock passphrase)) = false
binds (Ok (Unlock passphrase)) = false
binds (Ok (OtherExtension name)) = false
binds (Ok (Unsupported number)) = false
binds (Err fault) = false

-- the body is a bind
abbrev pub is_bind : List ℕ → Bool
is_bind body = binds (request_of body)

-- a list of identities without those whose keys aren't listed, and FAILURE as it is
abbrev pub IsCut : List (List ℕ) → Result AgentReply ReplyFault → List ℕ → Type 0
IsCut blobs (Ok Failure) reply = reply ≡ failure
IsCut blobs (Ok Success) reply = ⊥
IsCut blobs (Ok (Identities identities)) reply =
    reply ≡ identities_answer (filter (λ identity. list_any (bytes_eq identity.0) blobs) identities)
IsCut blobs (Ok (Signature signature)) reply = ⊥
IsCut blobs (Err fault) reply = ⊥

-- the answer to a list is cut, and any other one passed on as it is
abbrev pub IsReplyTo : Result ClientRequest MsgFault → Listed → List ℕ → List ℕ → Type 0
IsReplyTo (Ok ListIdentities) listed answer reply = IsCut listed.blobs (reply_of answer) reply
IsReplyTo (Ok (Sign signing)) listed answer reply = reply ≡ string answer
IsReplyTo (Ok (Bind bind)) listed answer reply = reply ≡ string answer
IsReplyTo (Ok (Add addition)) listed answer reply = ⊥
IsReplyTo (Ok (Remove blob)) listed answer reply = ⊥
IsReplyTo (Ok RemoveAll) listed answer reply = ⊥
IsReplyTo (Ok (Lock passphrase)) listed answer reply = ⊥
IsReplyTo (Ok (Unlock passphrase)) listed answer reply = ⊥
IsReplyTo (Ok (OtherExtension name)) listed answer reply = ⊥
IsReplyTo (Ok (Unsupported number)) listed answer reply = ⊥
IsReplyTo (Err fault) listed answer reply = ⊥

-- a body of the client's with its reply, and the body of upstream's that answered it, where it was forwarded
pub record Exchange : Type 0 where
  pub body : List ℕ
  pub answers : List (List ℕ)
  pub reply : List ℕ

-- upstream's answer to this body, cut where that is to be
pub record IsAnswered (listed : Listed) (exchange : Exchange) : Type 0 where
  pub answer : List ℕ
  pub answered : exchange.answers ≡ answer ∷ []
  pub reply : IsReplyTo (request_of exchange.body) listed answer exchange.reply

-- FAILURE without an answer
pub record IsRefused (exchange : Exchange) : Type 0 where
  pub unanswered : exchange.answers ≡ []
  pub reply : exchange.reply ≡ failure

-- a body that was forwarded has upstream's answer, and any other body has FAILURE and no answer
abbrev pub IsReplied : Bool → Listed → Exchange → Type 0
IsReplied true listed exchange = IsAnswered listed exchange
IsReplied false listed exchange = IsRefused exchange

-- a body that was forwarded is answered, and another one refused
abbrev pub IsExchange : Listed → Exchange → Type 0
IsExchange listed exchange = IsReplied (is_forwarded listed exchange.body) listed exchange

-- while a reply is waited for, one more body was taken and forwarded
pub record IsPendingFor (listed : Listed) (pending : List (List ℕ)) : Type 0 where
  pub body : List ℕ
  pub only : pending ≡ body ∷ []
  pub passed : is_forwarded listed body ≡ true

-- the bodies that wait for a reply: none where nothing is waited for, else one that was forwarded
abbrev pub IsPending : Waits → Listed → List (List ℕ) → Type 0
IsPending Nothing listed pending = pending ≡ []
IsPending OnList listed pending = IsPendingFor listed pending
IsPending OnBind listed pending = IsPendingFor listed pending
IsPending OnReply listed pending = IsPendingFor listed pending

-- the bodies that were taken, with those that aren't replied to
abbrev pub bodies : List Exchange → List (List ℕ)
bodies exchanges = map (λ exchange. exchange.body) exchanges

-- the bodies of upstream that answered, in order
abbrev pub answers : List Exchange → List (List ℕ)
answers exchanges = flat_map (λ exchange. exchange.answers) exchanges

-- the bytes of all replies, in order
abbrev pub replies : List Exchange → List ℕ
replies exchanges = flat_map (λ exchange. exchange.reply) exchanges

-- what holds while a pair's connection to the agent behind isn't used, or there is none: a body that waits for its
-- reply is owed whole, none that was sent is unanswered, and no bind was ever sent
pub record IsApart (pair : Pair) (exchanges : List Exchange) (pending : List (List ℕ)) : Type 0 where
  pub unheard : pair.upstream.heard ≡ []
  pub whole : pair.upstream.owed ≡ frames pending
  pub unbound : list_any is_bind (bodies exchanges) ≡ false

-- what a pair sent and is owed: upstream the frames of the taken bodies that are forwarded, and the client a reply to
-- each body in order, but for the last at most. A connection to the agent behind begins and is given back or lost
-- between two frames, and once a bind was sent on it, no other one is made
pub record IsExact (listed : Listed) (watched : Watched) : Type 0 where
  pub taken : List (List ℕ)
  pub exchanges : List Exchange
  pub pending : List (List ℕ)
  pub parts : taken ≡ bodies exchanges ++ pending
  pub from_client : watched.client.heard ≡ frames taken ++ watched.pair.client.heard
  pub from_upstream : watched.upstream.heard ≡ frames (answers exchanges) ++ watched.pair.upstream.heard
  pub to_upstream : watched.upstream.sent ++ watched.pair.upstream.owed ≡ frames (filter (is_forwarded listed) taken)
  pub to_client : watched.client.sent ++ watched.pair.client.owed ≡ replies exchanges
  pub are_bodies : All (IsBody longest_body) taken
  pub are_answers : All (IsBody longest_body) (answers exchanges)
  pub each : All (IsExchange listed) exchanges
  pub last : IsPending watched.pair.waits listed pending
  pub bound : watched.pair.is_bound ≡ list_any is_bind taken
  pub unused : watched.pair.is_linked ≡ false → watched.pair.is_used ≡ false
  pub apart : watched.pair.is_used ≡ false → IsApart watched.pair exchanges pending

-- the pieces of an event are bytes
abbrev pub IsInRange : Happening → Type 0
IsInRange Joined = Unit {0}
IsInRange (Connected number) = Unit {0}
IsInRange (Heard number side piece) = IsBytes piece
IsInRange (Took number side count) = Unit {0}
IsInRange (Lost number) = Unit {0}
IsInRange (Ended number) = Unit {0}

-- the law
abbrev pub EachIsExact : Type 0
EachIsExact = (listed : Listed) (events : List Happening) (number : ℕ) → All IsInRange events
    → AllFit (first_state listed) events
    → IfSome (watched_of number listed events) (IsExact listed)
