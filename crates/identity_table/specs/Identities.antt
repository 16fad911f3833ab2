-- The identities that an agent holds (draft-miller-ssh-agent, "Adding keys to the agent"). That they
-- are a list in order of first addition is as in OpenSSH's ssh-agent.
use Rattle.std.specs.Prelude.{◌≡◌, ℕ, ◌+◌, ◌*◌, ◌-◌, ◌≤◌, ◌==◌, nat_lt, ◌||◌, Bool, List, [], ◌∷◌, length, filter, Option, Some, None, IfSome, if◌then◌else◌}
use Rattle.std.specs.List.{find, sum_by}
use Rattle.std.specs.Str.{bytes_eq}
use Rattle.wire_text.specs.Bounds.{longest_body}
use Rattle.lists.specs.Firsts.{remove_first}
use Rattle.lists.specs.Keyed.{find_by}
use Rattle.constraint_rec.specs.declared.constraint.Constraint.{Constraint}
use Rattle.constraint_rec.specs.declared.constraint.Hop.{Hop}
use Rattle.constraint_rec.specs.declared.terms.Terms.{Terms}
use Rattle.key_purposes.specs.declared.purpose.Purpose.{Purpose}
use Rattle.key_blob.specs.declared.added.AddedKey.{AddedKey}
use Rattle.identity_table.specs.Deaths.{death_of, lives_at, on_clock, earlier}

-- an identity: its addition's number, its key, its comment and its constraints
pub record HeldKey : Type 0 where
  pub number : ℕ
  pub blob : List ℕ
  pub private : List ℕ
  pub comment : List ℕ
  pub death : Option ℕ
  pub confirm : Bool
  pub uses : Option ℕ
  pub rules : List Constraint
  pub purposes : List Purpose

-- the identities in order of first addition, the greatest second given, the last number given, and
-- the lifetime of those that come without one
pub record TableState : Type 0 where
  pub identities : List HeldKey
  pub greatest : ℕ
  pub last : ℕ
  pub life : Option ℕ

-- ---- lists of identities

-- the identity has this blob
abbrev pub has_blob : List ℕ → HeldKey → Bool
has_blob blob key = bytes_eq key.blob blob

-- the number of its addition
abbrev pub number_of : HeldKey → ℕ
number_of key = key.number

-- the identity with this blob
unfoldable pub find_identity : List ℕ → List HeldKey → Option HeldKey
find_identity blob keys = find (has_blob blob) keys

-- the identity of this addition
unfoldable pub find_number : ℕ → List HeldKey → Option HeldKey
find_number number keys = find_by number_of number keys

-- the identity in place of the one with the same blob, or at the end
unfoldable pub put_identity : HeldKey → List HeldKey → List HeldKey
put_identity new [] = new ∷ []
put_identity new (key ∷ keys) =
    if bytes_eq key.blob new.blob then new ∷ keys else key ∷ put_identity new keys

-- the identities without the one with this blob
unfoldable pub remove_identity : List ℕ → List HeldKey → List HeldKey
remove_identity blob keys = remove_first (has_blob blob) keys

-- those whose lifetime has not run out at this second
unfoldable pub alive_at : ℕ → List HeldKey → List HeldKey
alive_at second keys = filter (λ key. lives_at second key.death) keys

-- ---- what is used up (ours)

-- an identity after one more use, by the number that it has left: it has one less, and is gone after
-- its last
abbrev pub used_by : Option ℕ → HeldKey → Option HeldKey
used_by None key = Some key
used_by (Some uses) key =
    if uses - 1 == 0 then None else Some (record key { uses = Some (uses - 1) })

-- in front of these, where it is there
abbrev pub in_front : Option HeldKey → List HeldKey → List HeldKey
in_front None keys = keys
in_front (Some key) keys = key ∷ keys

-- the identities after one more use of the one of this addition
unfoldable pub spend_identity : ℕ → List HeldKey → List HeldKey
spend_identity number [] = []
spend_identity number (key ∷ keys) =
    if key.number == number then in_front (used_by key.uses key) keys
    else key ∷ spend_identity number keys

-- ---- deaths

-- the first second from which one of them is dead, where the clock comes to it
unfoldable pub next_death : List HeldKey → Option ℕ
next_death [] = None
next_death (key ∷ keys) = earlier (on_clock key.death) (next_death keys)

-- ---- the answer that lists them ("Requesting a list of keys")

-- an identity's blob and comment, each a string
abbrev pub entry_len : HeldKey → ℕ
entry_len key = 8 + (length key.blob + length key.comment)

-- how much of an answer it takes, where it is there
abbrev pub taken_by : Option HeldKey → ℕ
taken_by None = 0
taken_by (Some key) = entry_len key

-- the length of all entries of a list
unfoldable pub entries_len : List HeldKey → ℕ
entries_len [] = 0
entries_len (key ∷ keys) = entry_len key + entries_len keys

-- the message number, the count, and the identities
abbrev pub answer_len : List HeldKey → ℕ
answer_len keys = 5 + entries_len keys

-- the longest reply that OpenSSH's clients take: 256 KiB (authfd.c, MAX_AGENT_REPLY_LEN)
abbrev pub max_answer : ℕ
max_answer = longest_body

-- ---- the room that they take (ours)

-- what a hop takes: its user, its host eight times, since each list may hold it against principals, each
-- of its keys, and 64 bytes more for it and for each
abbrev pub hop_len : Hop → ℕ
hop_len hop =
    64 + length hop.user + 8 * length hop.host + sum_by (λ key. 64 + length key.blob) hop.keys

-- what an identity takes, beside its entry: its private string, 320 bytes for each of its purposes, which is more
-- than one has, and the hops of its constraints
abbrev pub kept_by : HeldKey → ℕ
kept_by key =
    length key.private + 320 * length key.purposes + sum_by (λ rule. hop_len rule.from + hop_len rule.to) key.rules

-- how much one takes, where it is there
abbrev pub kept_if : Option HeldKey → ℕ
kept_if None = 0
kept_if (Some key) = kept_by key

-- what all of them take
unfoldable pub kept_len : List HeldKey → ℕ
kept_len keys = sum_by kept_by keys

-- these are too many: the answer that lists them all is longer than a message, or they take more than
-- 8 MiB
abbrev pub is_full : List HeldKey → Bool
is_full keys = nat_lt longest_body (answer_len keys) || nat_lt 8388608 (kept_len keys)

-- ---- what holds of every table

-- no two have one blob
unfoldable pub HaveOwnBlobs : List HeldKey → Type 0
HaveOwnBlobs [] = Unit {0}
HaveOwnBlobs (key ∷ keys) = (find_identity key.blob keys ≡ None) × HaveOwnBlobs keys

-- no two have one number, and none has a later one than the last
unfoldable pub HaveOwnNumbers : ℕ → List HeldKey → Type 0
HaveOwnNumbers last [] = Unit {0}
HaveOwnNumbers last (key ∷ keys) =
    (key.number ≤ last) × (find_number key.number keys ≡ None) × HaveOwnNumbers last keys

-- the longest private string: as long as the longest message (ours)
abbrev pub longest_private : ℕ
longest_private = longest_body

-- no identity has a private string that is longer than a message
unfoldable pub AreShort : List HeldKey → Type 0
AreShort [] = Unit {0}
AreShort (key ∷ keys) = (length key.private ≤ longest_private) × AreShort keys

-- each number of uses that is left is at least 1
unfoldable pub AreUsable : List HeldKey → Type 0
AreUsable [] = Unit {0}
AreUsable (key ∷ keys) = IfSome key.uses (λ uses. 1 ≤ uses) × AreUsable keys

-- each identity has its own blob and its own number, one message lists them all, they take at most
-- 8 MiB, no private string is longer than a message, and each number of uses that is left is at least 1
pub record IsSound (keys : List HeldKey) (last : ℕ) : Type 0 where
  pub blobs : HaveOwnBlobs keys
  pub numbers : HaveOwnNumbers last keys
  pub fits : answer_len keys ≤ max_answer
  pub small : kept_len keys ≤ 8388608
  pub short : AreShort keys
  pub uses : AreUsable keys

-- ---- additions

-- an identity of these parts
abbrev pub identity_of : ℕ → AddedKey → List ℕ → Option ℕ → Terms → HeldKey
identity_of number key comment death terms = record {
  number = number;
  blob = key.blob;
  private = key.private;
  comment = comment;
  death = death;
  confirm = terms.confirm;
  uses = terms.uses;
  rules = terms.rules;
  purposes = terms.purposes;
}

-- the identity that an addition at this second makes
abbrev pub new_identity : TableState → AddedKey → Terms → List ℕ → ℕ → HeldKey
new_identity table key terms comment now =
    identity_of (table.last + 1) key comment (death_of now terms.life table.life) terms

-- the identities after it
abbrev pub identities_with : TableState → AddedKey → Terms → List ℕ → ℕ → List HeldKey
identities_with table key terms comment now =
    put_identity (new_identity table key terms comment now) table.identities

-- the table after it
abbrev pub added : TableState → AddedKey → Terms → List ℕ → ℕ → TableState
added table key terms comment now = record {
  identities = identities_with table key terms comment now;
  greatest = now;
  last = table.last + 1;
  life = table.life;
}
