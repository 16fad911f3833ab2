-- The identities of a list that are kept, and how long they are.
use Rattle.std.proofs.Common.{◌≡◌, ◌∙◌, ℕ, zero, suc, ◌+◌, ◌<◌, ◌≤◌, Bool, true, false, ◌&&◌, List, [], ◌∷◌, ◌++◌, length, map, drop, get_or, Option, Some, None, Result, Ok, Err, refl, ap, sym, arith, cond, filter, append_assoc}
use Rattle.std.specs.Prelude.{◌↔◌, IsTrue, is_some}
use Rattle.std.proofs.lemmas.List.{drop_all, drop_more, length-append}
use Rattle.std.specs.Borrow.{Bor}
use Rattle.wire_text.specs.Wire.{IsBytes, string, uint32}
use Rattle.wire_core.specs.Fields.{string_at, uint32_at}
use Rattle.wire_core.specs.Readings.{◌>>=◌, ended_or, field_or}
use Rattle.wire_text.specs.Bounds.{longest_body}
use Rattle.wire_text.proofs.WireLemmas.{length-uint32}
use Rattle.agent_msg.specs.Replies.{entries, entries_length, identities_answer, list_head}
use Rattle.agent_msg.specs.ReplyReading.{AgentReply, Failure, Success, Identities, Signature, IsReply, entries_at, entry_at, identities_end, in_front, lent, reply_of}
use Rattle.agent_msg.specs.declared.agent_reply.ReplyFault.{ReplyFault}
use Rattle.agent_msg.specs.declared.agent_reply.ReplyFault.TheVariants.{Short, Trailing}
use Rattle.agent_msg.proofs.ReplyLemmas.{length-entries, list_head-entries}
use Rattle.agent_msg.proofs.ReplyReadLemmas.{EntriesRead, reply_is_found}
use Rattle.filter_model.specs.Pairs.{Half, is_none}
use Rattle.filter_model.specs.Looking.{cut_reply, is_listed, only_listed, without_front}
use Rattle.filter_core.specs.Cuts.{FitsBody, are_listed_at, is_list_listed, is_listed_then}
use Rattle.filter_core.specs.Slots.{taken_for}

-- ---- what is kept

kept_by : (test : Bool) (first : Bor (List ℕ) × Bor (List ℕ)) (some : List (Bor (List ℕ) × Bor (List ℕ))) (all : List (List ℕ × List ℕ))
    → map lent some ≡ all
    → map lent (cond test (first ∷ some) some) ≡ cond test (lent first ∷ all) all
kept_by true first some all same = ap (λ (l : List (List ℕ × List ℕ)). lent first ∷ l) same
kept_by false first some all same = same

pub kept : (listed : List (List ℕ)) (identities : List (Bor (List ℕ) × Bor (List ℕ)))
    → map lent (filter (λ one. is_listed one.0.now listed) identities) ≡ only_listed listed (map lent identities)
kept listed [] = refl
kept listed (first ∷ others) =
    kept_by (is_listed first.0.now listed) first (filter (λ one. is_listed one.0.now listed) others) (only_listed listed (map lent others)) (kept listed others)

-- it isn't longer than all
shorter_by : (test : Bool) (first : List ℕ × List ℕ) (some all : List (List ℕ × List ℕ))
    → entries_length some ≤ entries_length all
    → entries_length (cond test (first ∷ some) some) ≤ entries_length (first ∷ all)
shorter_by true first some all rest = omega (arith, rest)
shorter_by false first some all rest = omega (arith, rest)

pub shorter : (listed : List (List ℕ)) (identities : List (List ℕ × List ℕ))
    → entries_length (only_listed listed identities) ≤ entries_length identities
shorter listed [] = omega arith
shorter listed (first ∷ others) =
    shorter_by (is_listed first.0 listed) first (only_listed listed others) others (shorter listed others)

-- where as many are kept, all are
no_more_by : (test : Bool) (first : List ℕ × List ℕ) (some all : List (List ℕ × List ℕ))
    → length some ≤ length all → length (cond test (first ∷ some) some) ≤ length (first ∷ all)
no_more_by true first some all rest = omega (arith, rest)
no_more_by false first some all rest = omega (arith, rest)

no_more : (listed : List (List ℕ)) (identities : List (List ℕ × List ℕ))
    → length (only_listed listed identities) ≤ length identities
no_more listed [] = omega arith
no_more listed (first ∷ others) = no_more_by (is_listed first.0 listed) first (only_listed listed others) others (no_more listed others)

all_kept_by : (test : Bool) (first : List ℕ × List ℕ) (some all : List (List ℕ × List ℕ))
    → length some ≤ length all → (length some ≡ length all → some ≡ all)
    → length (cond test (first ∷ some) some) ≡ length (first ∷ all)
    → cond test (first ∷ some) some ≡ first ∷ all
all_kept_by true first some all less later same = ap (λ (l : List (List ℕ × List ℕ)). first ∷ l) (later (omega (arith, same)))
all_kept_by false first some all less later same = absurd (omega (arith, less, same))

all_kept : (listed : List (List ℕ)) (identities : List (List ℕ × List ℕ))
    → length (only_listed listed identities) ≡ length identities
    → only_listed listed identities ≡ identities
all_kept listed [] same = refl
all_kept listed (first ∷ others) same =
    all_kept_by (is_listed first.0 listed) first (only_listed listed others) others (no_more listed others) (all_kept listed others) same

-- then the answer is the list of them
as_it_is : (listed : List (List ℕ)) (answer : List ℕ) (identities : List (List ℕ × List ℕ))
    → IsReply answer (Identities identities)
    → length (only_listed listed identities) ≡ length identities
    → string answer ≡ identities_answer (only_listed listed identities)
as_it_is listed answer identities is same = ap string is.printed ∙ ap identities_answer (sym (all_kept listed identities same))

-- there are no more identities than bytes of entries
pub few : (identities : List (List ℕ × List ℕ)) → length identities ≤ entries_length identities
few [] = omega arith
few (first ∷ others) = omega (arith, few others)

-- ---- one after another

pub more : (identities : List (Bor (List ℕ) × Bor (List ℕ))) (i : ℕ) (one : Bor (List ℕ) × Bor (List ℕ))
    → i < length identities → one ≡ get_or identities i one
    → map lent (drop i identities) ≡ lent one ∷ map lent (drop (i + 1) identities)
more identities i one inside is =
    ap (map lent) (drop_more identities i one inside ∙ ap (λ (k : Bor (List ℕ) × Bor (List ℕ)). k ∷ drop (i + 1) identities) (sym is))

pub none_left : (identities : List (Bor (List ℕ) × Bor (List ℕ))) (i : ℕ) → length identities ≤ i
    → entries_length (map lent (drop i identities)) ≡ 0
none_left identities i past = ap (λ (l : List (Bor (List ℕ) × Bor (List ℕ))). entries_length (map lent l)) (drop_all i identities past)

-- ---- a list of nothing but listed keys

-- it was read to its end, and each of its keys is listed
abbrev AreListed : List (List ℕ) → EntriesRead → Type 0
AreListed blobs (Ok read) = (read.1 ≡ []) × (only_listed blobs read.0 ≡ read.0)
AreListed blobs (Err fault) = ⊥

no_bytes : (bytes : List ℕ) → is_none bytes ≡ true → bytes ≡ []
no_bytes [] none = refl
no_bytes (byte ∷ bytes) none = cc

first_holds : (a b : Bool) → (a && b) ≡ true → a ≡ true
first_holds true b both = refl
first_holds false b both = cc

second_holds : (a b : Bool) → (a && b) ≡ true → b ≡ true
second_holds true b both = both
second_holds false b both = cc

kept_first : (test : Bool) (first : List ℕ × List ℕ) (some all : List (List ℕ × List ℕ))
    → test ≡ true → some ≡ all → cond test (first ∷ some) some ≡ first ∷ all
kept_first true first some all holds same = ap (λ (l : List (List ℕ × List ℕ)). first ∷ l) same
kept_first false first some all holds same = cc

one_more : (others : EntriesRead) (blobs : List (List ℕ)) (first : List ℕ × List ℕ)
    → is_listed first.0 blobs ≡ true → AreListed blobs others
    → AreListed blobs (others >>= in_front (first ∷ []))
one_more (Ok read) blobs first holds are = (are.0, kept_first (is_listed first.0 blobs) first (only_listed blobs read.0) read.0 holds are.1)
one_more (Err fault) blobs first holds are = are

then_listed : (count : ℕ) (blobs : List (List ℕ)) (at : Result ((List ℕ × List ℕ) × List ℕ) ReplyFault)
    → ((bytes : List ℕ) → are_listed_at count blobs bytes ≡ true → AreListed blobs (entries_at count bytes))
    → is_listed_then blobs (are_listed_at count blobs) at ≡ true
    → AreListed blobs (at >>= λ first. (entries_at count first.1 >>= in_front (first.0 ∷ [])))
then_listed count blobs (Ok first) later all =
    one_more (entries_at count first.1) blobs first.0 (first_holds (is_listed first.0.0 blobs) (are_listed_at count blobs first.1) all)
    (later first.1 (second_holds (is_listed first.0.0 blobs) (are_listed_at count blobs first.1) all))
then_listed count blobs (Err fault) later all = absurd (cc)

all_listed : (count : ℕ) (blobs : List (List ℕ)) (bytes : List ℕ)
    → are_listed_at count blobs bytes ≡ true → AreListed blobs (entries_at count bytes)
unfolding entries_at are_listed_at
all_listed zero blobs bytes all = (no_bytes bytes all, refl)
all_listed (suc count) blobs bytes all = then_listed count blobs (entry_at bytes) (all_listed count blobs) all

-- an identity that is there
pub entry_there : (blobs : List (List ℕ)) (bytes behind rest blob comment : List ℕ) (later : List ℕ → Bool)
    → string_at bytes ≡ Some (blob, behind) → string_at behind ≡ Some (comment, rest)
    → is_listed_then blobs later (entry_at bytes) ≡ (is_listed blob blobs && later rest)
entry_there blobs bytes behind rest blob comment later one two = rw (one, two) refl

-- one whose blob isn't
pub no_blob : (blobs : List (List ℕ)) (bytes : List ℕ) (later : List ℕ → Bool)
    → string_at bytes ≡ None → is_listed_then blobs later (entry_at bytes) ≡ false
no_blob blobs bytes later none = rw none refl

-- and one whose comment isn't
pub no_comment : (blobs : List (List ℕ)) (bytes behind blob : List ℕ) (later : List ℕ → Bool)
    → string_at bytes ≡ Some (blob, behind) → string_at behind ≡ None
    → is_listed_then blobs later (entry_at bytes) ≡ false
no_comment blobs bytes behind blob later one none = rw (one, none) refl

-- one identity is looked at after another
pub listed_next : (count others : ℕ) (blobs : List (List ℕ)) (bytes : List ℕ) → count ≡ suc others
    → are_listed_at count blobs bytes ≡ is_listed_then blobs (are_listed_at others blobs) (entry_at bytes)
unfolding are_listed_at
listed_next count others blobs bytes more = ap (λ (n : ℕ). are_listed_at n blobs bytes) more

-- and none is left
pub listed_end : (count : ℕ) (blobs : List (List ℕ)) (bytes : List ℕ) → count ≡ 0
    → are_listed_at count blobs bytes ≡ is_none bytes
unfolding are_listed_at
listed_end count blobs bytes none = ap (λ (n : ℕ). are_listed_at n blobs bytes) none

-- a test that holds gives true
pub holds_so : (test : Bool) → IsTrue test → test ≡ true
holds_so test holds = holds

-- a test for the end tells whether no bytes are left
pub ended : (test : Bool) (bytes : List ℕ) → IsTrue test ↔ (bytes ≡ []) → test ≡ is_none bytes
ended true [] is = refl
ended true (byte ∷ bytes) is = let none = is.0 refl in absurd (cc)
ended false [] is = let true_then = is.1 refl in absurd (cc)
ended false (byte ∷ bytes) is = refl

-- a list is its number, its count and its identities
list_read : (number count : ℕ) (after rest : List ℕ) → number ≡ 12
    → uint32_at after ≡ Some (count, rest)
    → reply_of (number ∷ after) ≡ (entries_at count rest >>= identities_end)
unfolding reply_of
list_read number count after rest is found =
    ap (λ (n : ℕ). reply_of (n ∷ after)) is
    ∙ ap (λ (at : Option (ℕ × List ℕ)). field_or Short at (λ count rest. entries_at count rest >>= identities_end)) found

-- a list of nothing but listed keys is passed on as it is
passed_by : (read : EntriesRead) (blobs : List (List ℕ)) (answer : List ℕ) → IsBytes answer
    → AreListed blobs read → reply_of answer ≡ (read >>= identities_end)
    → cut_reply blobs (reply_of answer) ≡ Some (string answer)
passed_by (Ok read) blobs answer small are is =
    let whole : reply_of answer ≡ Ok (Identities read.0) = is ∙ ap (λ (l : List ℕ). ended_or Trailing (Identities read.0) l) are.0 in
    let reply = reply_is_found answer (Identities read.0) small whole in
    ap (cut_reply blobs) whole ∙ ap Some (sym (as_it_is blobs answer read.0 reply (ap length are.1)))
passed_by (Err fault) blobs answer small are is = absurd are

counted : (found : Option (ℕ × List ℕ)) (blobs : List (List ℕ)) (answer after : List ℕ) (number : ℕ)
    → IsBytes answer → answer ≡ number ∷ after → number ≡ 12 → uint32_at after ≡ found
    → is_list_listed blobs found ≡ true
    → cut_reply blobs (reply_of answer) ≡ Some (string answer)
counted None blobs answer after number small front is found all = cc
counted (Some read) blobs answer after number small front is found all =
    passed_by (entries_at read.0 read.1) blobs answer small (all_listed read.0 blobs read.1 all) (ap reply_of front ∙ list_read number read.0 after read.1 is found)

-- the answer is such a list: the client is owed it as it is
pub passed : (blobs : List (List ℕ)) (answer after : List ℕ) (number : ℕ) → IsBytes answer
    → answer ≡ number ∷ after → number ≡ 12 → is_list_listed blobs (uint32_at after) ≡ true
    → cut_reply blobs (reply_of answer) ≡ Some (string answer)
passed blobs answer after number small front is all = counted (uint32_at after) blobs answer after number small front is refl all

-- ---- a reply that is read

-- it is no longer than its body
short_list : (body : List ℕ) (identities : List (List ℕ × List ℕ))
    → IsReply body (Identities identities) → length body ≤ longest_body
    → 5 + entries_length identities ≤ longest_body
short_list body identities is short =
    omega (arith, short, ap length is.printed, length-append (uint32 (length identities)) (entries identities), length-uint32 (length identities), length-entries identities)

pub short_reply : (body : List ℕ) (reply : AgentReply) → IsReply body reply
    → length body ≤ longest_body → FitsBody reply
short_reply body Failure is short = tt
short_reply body Success is short = tt
short_reply body (Identities identities) is short = short_list body identities is short
short_reply body (Signature signature) is short = tt

-- ---- a list that is written

pub listed_bytes : (before middle after : List ℕ) (all : List (List ℕ × List ℕ)) (body count : ℕ)
    → after ≡ middle ++ entries all → middle ≡ before ++ list_head body count
    → body ≡ 5 + entries_length all → count ≡ length all → after ≡ before ++ identities_answer all
listed_bytes before middle after all body count put head sized counted =
    put ∙ ap (λ (bytes : List ℕ). bytes ++ entries all) head ∙ append_assoc before (list_head body count) (entries all)
    ∙ ap (λ (bytes : List ℕ). before ++ bytes) (list_head-entries all body count sized counted)

-- ---- whether an answer makes a reply

pub taken_none : (reply : Option (List ℕ)) (body_len : ℕ) (half : Half) → is_some reply ≡ false
    → taken_for reply body_len half ≡ half
taken_none None body_len half none = refl
taken_none (Some reply) body_len half none = cc

pub taken_some : (reply : Option (List ℕ)) (body_len : ℕ) (half : Half) → is_some reply ≡ true
    → taken_for reply body_len half ≡ without_front body_len half
taken_some None body_len half some = cc
taken_some (Some reply) body_len half some = refl
