-- What a pair takes from its sides, and what that owes them (ours). The file is read from its end.
use Rattle.std.specs.Prelude.{ℕ, ◌&&◌, Bool, true, false, List, [], ◌∷◌, Option, Some, None, Result, Ok, Err}
use Rattle.std.specs.List.{filter, list_any}
use Rattle.std.specs.Str.{bytes_eq}
use Rattle.wire_text.specs.Wire.{string}
use Rattle.wire_text.specs.Frames.{Front, front, front_body, after_front, Whole, Bad, More}
use Rattle.agent_msg.specs.Reading.{request_of}
use Rattle.agent_msg.specs.ReplyReading.{AgentReply, Failure, Success, Identities, Signature, reply_of}
use Rattle.agent_msg.specs.Replies.{failure, identities_answer}
use Rattle.agent_msg.specs.Requests.{ClientRequest, ListIdentities, Sign, Add, Remove, RemoveAll, Lock, Unlock, Bind, OtherExtension, Signing, Unsupported}
use Rattle.agent_msg.specs.declared.fault.MsgFault.{MsgFault}
use Rattle.agent_msg.specs.declared.agent_reply.ReplyFault.{ReplyFault}
use Rattle.wire_text.specs.Bounds.{longest_body}
use Rattle.filter_model.specs.declared.waits.Waits.TheVariants.{Nothing, OnList, OnBind, OnReply}
use Rattle.filter_model.specs.declared.waits.Waits.{Waits}
use Rattle.key_purposes.specs.Messages.{may_be_for}
use Rattle.filter_model.specs.Lists.{Listed}
use Rattle.filter_model.specs.Pairs.{Half, Pair, freed, owes_more, unlinked}

-- the pair that a look leaves, and whether it stays open; one that doesn't is as it was just before its end
pub record Looked : Type 0 where
  pub pair : Pair
  pub is_open : Bool

-- the pair stays open
abbrev pub stays : Pair → Looked
stays pair = record { pair = pair; is_open = true }

-- the pair is to be closed
abbrev pub ends : Pair → Looked
ends pair = record { pair = pair; is_open = false }

-- one look, and then another where the pair stays open
abbrev pub and_then_if : Bool → Pair → (Pair → Looked) → Looked
and_then_if true pair next = next pair
and_then_if false pair next = ends pair

-- one look, and another at the pair that it leaves, where that stays open
abbrev pub and_then : Looked → (Pair → Looked) → Looked
and_then first next = and_then_if first.is_open first.pair next

-- ---- what a body asks for

-- the blob stands in the list
abbrev pub is_listed : List ℕ → List (List ℕ) → Bool
is_listed blob blobs = list_any (bytes_eq blob) blobs

-- the key is listed, and the message is for one of its purposes and not signed by SHA-1, where there are any
abbrev pub may_sign : Listed → Signing → Bool
may_sign listed signing =
    is_listed signing.blob listed.blobs && may_be_for listed.purposes signing.message signing.blob signing.flags

-- what a body makes the pair wait for: nothing where it is refused
abbrev pub waits_by : Bool → Waits
waits_by true = OnReply
waits_by false = Nothing

-- what a request that was read makes the pair wait for: a list, a bind, and a signature by a listed key for one of its
-- purposes are forwarded
abbrev pub waits_for : Listed → Result ClientRequest MsgFault → Waits
waits_for listed (Ok ListIdentities) = OnList
waits_for listed (Ok (Sign signing)) = waits_by (may_sign listed signing)
waits_for listed (Ok (Bind bind)) = OnBind
waits_for listed (Ok (Add addition)) = Nothing
waits_for listed (Ok (Remove blob)) = Nothing
waits_for listed (Ok RemoveAll) = Nothing
waits_for listed (Ok (Lock passphrase)) = Nothing
waits_for listed (Ok (Unlock passphrase)) = Nothing
waits_for listed (Ok (OtherExtension name)) = Nothing
waits_for listed (Ok (Unsupported number)) = Nothing
waits_for listed (Err fault) = Nothing

-- the same of the body's bytes
abbrev pub fate_of : Listed → List ℕ → Waits
fate_of listed body = waits_for listed (request_of body)

-- ---- the client's side

-- a body was taken: it is refused, or forwarded unchanged
abbrev pub taken_as : Waits → List ℕ → Pair → Pair
taken_as Nothing body pair = record pair { client = owes_more failure pair.client }
taken_as OnList body pair = record pair { upstream = owes_more (string body) pair.upstream; waits = OnList }
taken_as OnBind body pair = record pair {
  upstream = owes_more (string body) pair.upstream;
  waits = OnBind;
  is_bound = true;
}
taken_as OnReply body pair = record pair { upstream = owes_more (string body) pair.upstream; waits = OnReply }

-- the first frame, with a body of this length, leaves what was heard
abbrev pub without_front : ℕ → Half → Half
without_front body_len half = record half { heard = after_front body_len half.heard }

-- what stands at the front of the client's bytes, with nothing owed and nothing waited for
abbrev pub client_front : Front → Listed → Pair → Looked
client_front (Whole body_len) listed pair =
    stays (taken_as (fate_of listed (front_body body_len pair.client.heard)) (front_body body_len pair.client.heard)
    (record pair { client = without_front body_len pair.client }))
client_front (Bad announced) listed pair = ends pair
client_front More listed pair = stays pair

-- a pair that owes nothing to either side has its client looked at
abbrev pub client_owed : List ℕ → List ℕ → Listed → Pair → Looked
client_owed [] [] listed pair = client_front (front longest_body pair.client.heard) listed pair
client_owed [] (byte ∷ bytes) listed pair = stays pair
client_owed (byte ∷ bytes) owed listed pair = stays pair

-- nor is one that waits
abbrev pub client_waits : Waits → Listed → Pair → Looked
client_waits Nothing listed pair = client_owed pair.client.owed pair.upstream.owed listed pair
client_waits OnList listed pair = stays pair
client_waits OnBind listed pair = stays pair
client_waits OnReply listed pair = stays pair

-- a look at what the client sent
abbrev pub client_looked : Listed → Pair → Looked
client_looked listed pair = client_waits pair.waits listed pair

-- ---- the side of the agent behind it

-- the listed ones of these identities, in order
abbrev pub only_listed : List (List ℕ) → List (List ℕ × List ℕ) → List (List ℕ × List ℕ)
only_listed blobs identities = filter (λ identity. is_listed identity.0 blobs) identities

-- what the client is owed for the reply to a list: nothing where that is none
abbrev pub cut_reply : List (List ℕ) → Result AgentReply ReplyFault → Option (List ℕ)
cut_reply blobs (Ok Failure) = Some failure
cut_reply blobs (Ok Success) = None
cut_reply blobs (Ok (Identities identities)) = Some (identities_answer (only_listed blobs identities))
cut_reply blobs (Ok (Signature signature)) = None
cut_reply blobs (Err fault) = None

-- what the client is owed for this answer of upstream's, by what the pair waits for
abbrev pub reply_for : Waits → Listed → List ℕ → Option (List ℕ)
reply_for Nothing listed answer = None
reply_for OnList listed answer = cut_reply listed.blobs (reply_of answer)
reply_for OnBind listed answer = Some (string answer)
reply_for OnReply listed answer = Some (string answer)

-- nothing may be left behind the answer
abbrev pub nothing_left : List ℕ → Pair → Looked
nothing_left [] pair = stays pair
nothing_left (byte ∷ bytes) pair = ends pair

-- the answer's frame is taken, and the client is owed the reply
abbrev pub answered : Option (List ℕ) → ℕ → Pair → Looked
answered None body_len pair = ends pair
answered (Some reply) body_len pair = nothing_left (after_front body_len pair.upstream.heard) (record pair {
  client = owes_more reply pair.client;
  upstream = without_front body_len pair.upstream;
  waits = Nothing;
})

-- what stands at the front of upstream's bytes while a reply is waited for
abbrev pub upstream_front : Front → Listed → Pair → Looked
upstream_front (Whole body_len) listed pair =
    answered (reply_for pair.waits listed (front_body body_len pair.upstream.heard)) body_len pair
upstream_front (Bad announced) listed pair = ends pair
upstream_front More listed pair = stays pair

-- nothing may come from upstream while nothing is waited for
abbrev pub upstream_waits : Waits → Listed → Pair → Looked
upstream_waits Nothing listed pair = nothing_left pair.upstream.heard pair
upstream_waits OnList listed pair = upstream_front (front longest_body pair.upstream.heard) listed pair
upstream_waits OnBind listed pair = upstream_front (front longest_body pair.upstream.heard) listed pair
upstream_waits OnReply listed pair = upstream_front (front longest_body pair.upstream.heard) listed pair

-- a look at what upstream sent
abbrev pub upstream_looked : Listed → Pair → Looked
upstream_looked listed pair = upstream_waits pair.waits listed pair

-- ---- both

-- what the looks leave: a connection to the agent behind on which nothing is under way is as good as a new one
abbrev pub freed_after : Looked → Looked
freed_after after = record after { pair = freed after.pair }

-- a look at what the client sent, and then at what upstream sent
abbrev pub looked : Listed → Pair → Looked
looked listed pair = freed_after (and_then (client_looked listed pair) (upstream_looked listed))

-- the connection to the agent behind has ended: another one will do, where it isn't used
abbrev pub lost_if : Bool → Pair → Looked
lost_if true pair = ends pair
lost_if false pair = stays (unlinked pair)

-- the same of this pair
abbrev pub lost : Pair → Looked
lost pair = lost_if pair.is_used pair
