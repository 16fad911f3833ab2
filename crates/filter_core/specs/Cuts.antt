-- A list of identities: one that is passed on as it is, since the key of each is listed, and one that fits into a body (ours).
use Rattle.std.specs.Prelude.{ℕ, zero, suc, ◌+◌, ◌≤◌, ◌&&◌, Bool, false, List, Option, Some, None, Result, Ok, Err}
use Rattle.wire_text.specs.Bounds.{longest_body}
use Rattle.agent_msg.specs.Replies.{entries_length}
use Rattle.agent_msg.specs.ReplyReading.{AgentReply, Failure, Success, Identities, Signature, entry_at}
use Rattle.agent_msg.specs.declared.agent_reply.ReplyFault.{ReplyFault}
use Rattle.filter_model.specs.Looking.{is_listed}
use Rattle.filter_model.specs.Pairs.{is_none}

-- an identity was read whose key is listed, and of the bytes behind it the rest holds
abbrev pub is_listed_then : List (List ℕ) → (List ℕ → Bool) → Result ((List ℕ × List ℕ) × List ℕ) ReplyFault → Bool
is_listed_then blobs later (Ok read) = is_listed read.0.0 blobs && later read.1
is_listed_then blobs later (Err fault) = false

-- so many identities stand there and nothing behind them, and the key of each is listed
unfoldable pub are_listed_at : ℕ → List (List ℕ) → List ℕ → Bool
are_listed_at zero blobs bytes = is_none bytes
are_listed_at (suc count) blobs bytes = is_listed_then blobs (are_listed_at count blobs) (entry_at bytes)

-- a count was read, and behind it stand so many identities and nothing else, the key of each listed
abbrev pub is_list_listed : List (List ℕ) → Option (ℕ × List ℕ) → Bool
is_list_listed blobs None = false
is_list_listed blobs (Some read) = are_listed_at read.0 blobs read.1

-- a list fits into a body as it was heard
abbrev pub FitsBody : AgentReply → Type 0
FitsBody Failure = Unit {0}
FitsBody Success = Unit {0}
FitsBody (Identities identities) = 5 + entries_length identities ≤ longest_body
FitsBody (Signature signature) = Unit {0}
