-- Replies of an agent, as plain values and as bodies of messages, and what a body is, field by field:
-- its reply, or the first fault.
use Rattle.std.specs.Prelude.{◌≡◌, ◌==◌, ℕ, zero, suc, ◌^◌, ◌<◌, List, [], ◌∷◌, ◌++◌, length, map, All, Result, Ok, Err, if◌then◌else◌}
use Rattle.std.specs.Borrow.{Bor}
use Rattle.wire_text.specs.Wire.{uint32, string}
use Rattle.wire_core.specs.Fields.{uint32_at, string_at}
use Rattle.wire_core.specs.Readings.{◌>>=◌, field_or, ended_or}
use Rattle.agent_msg.specs.Replies.{entries}
use Rattle.agent_msg.specs.declared.agent_reply.Reply.{Reply}
use Rattle.agent_msg.specs.declared.agent_reply.Reply.TheVariants as code
use Rattle.agent_msg.specs.declared.agent_reply.ReplyFault.{ReplyFault}
use Rattle.agent_msg.specs.declared.agent_reply.ReplyFault.TheVariants.{Empty, Short, Trailing, Number}

-- ---- values

-- what an agent answers: identities are public key blobs with their comments
pub data AgentReply : Type 0 where
  Failure : AgentReply
  Success : AgentReply
  Identities : (identities : List (List ℕ × List ℕ)) → AgentReply
  Signature : (signature : List ℕ) → AgentReply

-- the texts that an identity of the code lends
abbrev pub lent : Bor (List ℕ) × Bor (List ℕ) → List ℕ × List ℕ
lent identity = (identity.0.now, identity.1.now)

-- the reply that the code's value lends
abbrev pub agent_reply : Reply → AgentReply
agent_reply code.Failure = Failure
agent_reply code.Success = Success
agent_reply (code.Identities identities) = Identities (map lent identities.items)
agent_reply (code.Signature signature) = Signature signature.now

-- ---- bodies

-- the body of a reply
abbrev pub reply_body : AgentReply → List ℕ
reply_body Failure = 5 ∷ []
reply_body Success = 6 ∷ []
reply_body (Identities identities) = 12 ∷ (uint32 (length identities) ++ entries identities)
reply_body (Signature signature) = 14 ∷ string signature

-- both texts fit into their fields
pub record IsEntry (identity : List ℕ × List ℕ) : Type 0 where
  pub blob_fits : length identity.0 < 2 ^ 32
  pub comment_fits : length identity.1 < 2 ^ 32

-- the contents fit into their fields
abbrev pub Fits : AgentReply → Type 0
Fits (Identities identities) = (length identities < 2 ^ 32) × All IsEntry identities
Fits (Signature signature) = length signature < 2 ^ 32
Fits reply = Unit {0}

-- the body is this reply
pub record IsReply (body : List ℕ) (reply : AgentReply) : Type 0 where
  pub printed : body ≡ reply_body reply
  pub fit : Fits reply

-- ---- reading from left to right

-- the identity at the front, and the bytes that follow
abbrev pub entry_at : List ℕ → Result ((List ℕ × List ℕ) × List ℕ) ReplyFault
entry_at bytes = field_or Short (string_at bytes) (λ blob after_blob.
    field_or Short (string_at after_blob) (λ comment rest. Ok ((blob, comment), rest)))

-- these identities in front of the others that were read
abbrev pub in_front : List (List ℕ × List ℕ) → List (List ℕ × List ℕ) × List ℕ
    → Result (List (List ℕ × List ℕ) × List ℕ) ReplyFault
in_front identities read = Ok (identities ++ read.0, read.1)

-- so many identities at the front, and the bytes that follow
unfoldable pub entries_at : ℕ → List ℕ → Result (List (List ℕ × List ℕ) × List ℕ) ReplyFault
entries_at zero bytes = Ok ([], bytes)
entries_at (suc count) bytes =
    entry_at bytes >>= λ first. (entries_at count first.1 >>= in_front (first.0 ∷ []))

-- identities, and then the end
abbrev pub identities_end : List (List ℕ × List ℕ) × List ℕ → Result AgentReply ReplyFault
identities_end read = ended_or Trailing (Identities read.0) read.1

-- IDENTITIES_ANSWER: how many identities there are, and each of them
abbrev pub identities_at : List ℕ → Result AgentReply ReplyFault
identities_at bytes =
    field_or Short (uint32_at bytes) (λ count rest. entries_at count rest >>= identities_end)

-- SIGN_RESPONSE: the signature
abbrev pub signature_at : List ℕ → Result AgentReply ReplyFault
signature_at bytes = field_or Short (string_at bytes)
    (λ signature rest. ended_or Trailing (Signature signature) rest)

-- the reply that the body is, or its first fault
unfoldable pub reply_of : List ℕ → Result AgentReply ReplyFault
reply_of [] = Err Empty
reply_of (number ∷ bytes) =
    if number == 5 then ended_or Trailing Failure bytes
    else if number == 6 then ended_or Trailing Success bytes
    else if number == 12 then identities_at bytes
    else if number == 14 then signature_at bytes
    else Err Number
