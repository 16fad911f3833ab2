-- Identities at places: what their list says of what stands at a place, and the other way round.
use Rattle.std.proofs.Common.{◌≡◌, ℕ, ◌+◌, ◌<◌, Bool, true, false, cond, List, [], ◌∷◌, ◌++◌, Option, Some, None, IsSome, IfSome, refl, ap, ◌∙◌, arith}
use Rattle.std.specs.List.{All, AllByRecursion, find}
use Rattle.std.specs.List.Sorted.{IsStrictlySortedBy}
use Rattle.std.specs.Ordering.{is_eq, match_ordering, nat_cmp}
use Rattle.std.specs.declared.cmp.Ordering.{Ordering}
use Rattle.std.specs.declared.cmp.Ordering.TheVariants.{Less, Equal, Greater}
use Rattle.std.specs.BTreeMap.{BTreeMap, IsOrdered, get, insert_entry, is_at, values}
use Rattle.std.specs.Map.{keys_of, lookup, remove_entry, values_of}
use Rattle.std.specs.Str.{bytes_eq}
use Rattle.std.specs.Cmp.{nat_cmp_total, eq_by_cmp_equiv}
use Rattle.std.proofs.lemmas.Map.{lookup-none}
use Rattle.std.proofs.lemmas.Map.Entries.{none_below_head}
use Rattle.std.proofs.lemmas.Map.Keys.{IsDistinct-from_sorted}
use Rattle.std.proofs.lemmas.Map.Views.{All-values_from_lookup}
use Rattle.lists.specs.Firsts.{IsOnly, remove_first}
use Rattle.identity_table.specs.Deaths.{lives_at}
use Rattle.identity_table.specs.Identities.{HeldKey, alive_at, entries_len, entry_len, find_identity, has_blob, put_identity, remove_identity, taken_by}
use Rattle.identity_table.proofs.UpdateLemmas.{none_is_not, same_some}

-- ---- what is found

-- what stands at a place and passes is found, where no other passes
pub found_at : (at : ℕ → Bool) (test : HeldKey → Bool) (es : List (ℕ × HeldKey)) (one : HeldKey) →
    IsOnly test (values_of es) → lookup at es ≡ Some one → test one ≡ true →
    find test (values_of es) ≡ Some one
found_at at test [] one only there passes = absurd cc
found_at at test (e ∷ es) one only there passes =
    by_tests (at e.0) (test e.1) refl only.0 there (λ later. found_at at test es one only.1 later passes)
  where
    by_tests : (here is : Bool) → test e.1 ≡ is → (test e.1 ≡ true → find test (values_of es) ≡ None) →
        cond here (Some e.1) (lookup at es) ≡ Some one →
        (lookup at es ≡ Some one → find test (values_of es) ≡ Some one) →
        cond is (Some e.1) (find test (values_of es)) ≡ Some one
    by_tests true true is behind found later = found
    by_tests true false is behind found later =
        let same : e.1 ≡ one = same_some e.1 one found in
        let yes : test e.1 ≡ true = ap test same ∙ passes in
        absurd cc
    by_tests false true is behind found later =
        none_is_not (find test (values_of es)) one (behind is) (later found)
    by_tests false false is behind found later = later found

-- a fact of what is there, if something is
some_if : (P : HeldKey → Type 0) (found : Option HeldKey) → ((one : HeldKey) → found ≡ Some one → P one) →
    IfSome found P
some_if P None each = tt
some_if P (Some one) each = each one refl

-- what holds of all that stands at a place holds of all in the list
pub all_held : (P : HeldKey → Type 0) (m : BTreeMap ℕ HeldKey) → IsOrdered nat_cmp m →
    ((place : ℕ) (one : HeldKey) → get nat_cmp m place ≡ Some one → P one) → All P (values m)
all_held P m order each =
    All-values_from_lookup (eq_by_cmp_equiv nat_cmp_total) P m.entries
    (IsDistinct-from_sorted nat_cmp (keys_of m.entries) order)
    (λ place. some_if P (get nat_cmp m place) (each place))

-- nothing is found where nothing that stands at a place passes
pub none_found : (test : HeldKey → Bool) (keys : List HeldKey) → AllByRecursion (λ one. test one ≡ false) keys →
    find test keys ≡ None
none_found test [] none = refl
none_found test (key ∷ keys) none = rw none.0 (none_found test keys none.1)

-- ---- a removal

-- what stood at the place leaves the list
pub values-remove : (at : ℕ → Bool) (test : HeldKey → Bool) (es : List (ℕ × HeldKey)) (one : HeldKey) →
    IsOnly test (values_of es) → lookup at es ≡ Some one → test one ≡ true →
    values_of (remove_entry at es) ≡ remove_first test (values_of es)
values-remove at test [] one only there passes = refl
values-remove at test (e ∷ es) one only there passes =
    by_tests (at e.0) (test e.1) refl only.0 there (λ later. found_at at test es one only.1 later passes)
    (λ later. values-remove at test es one only.1 later passes)
  where
    by_tests : (here is : Bool) → test e.1 ≡ is → (test e.1 ≡ true → find test (values_of es) ≡ None) →
        cond here (Some e.1) (lookup at es) ≡ Some one →
        (lookup at es ≡ Some one → find test (values_of es) ≡ Some one) →
        (lookup at es ≡ Some one → values_of (remove_entry at es) ≡ remove_first test (values_of es)) →
        values_of (cond here es (e ∷ remove_entry at es))
        ≡ cond is (values_of es) (e.1 ∷ remove_first test (values_of es))
    by_tests true true is behind found later rest = refl
    by_tests true false is behind found later rest =
        let same : e.1 ≡ one = same_some e.1 one found in
        let yes : test e.1 ≡ true = ap test same ∙ passes in
        absurd cc
    by_tests false true is behind found later rest =
        none_is_not (find test (values_of es)) one (behind is) (later found)
    by_tests false false is behind found later rest =
        ap (λ (keys : List HeldKey). e.1 ∷ keys) (rest found)

-- what was removed takes its entry of the answer with it
pub entries_len-removed : (blob : List ℕ) (keys : List HeldKey) →
    entries_len (remove_identity blob keys) + taken_by (find_identity blob keys) ≡ entries_len keys
unfolding entries_len remove_identity find_identity
entries_len-removed blob [] = refl
entries_len-removed blob (key ∷ keys) = by_test (bytes_eq key.blob blob) (entries_len-removed blob keys)
  where
    by_test : (same : Bool) →
        entries_len (remove_identity blob keys) + taken_by (find_identity blob keys) ≡ entries_len keys →
        entries_len (cond same keys (key ∷ remove_identity blob keys)) + taken_by (cond same (Some key) (find_identity blob keys))
        ≡ entry_len key + entries_len keys
    by_test true rest = omega arith
    by_test false rest = omega (arith, rest)

-- what is dead is no loss to those that are alive
pub alive_at-removed : (now : ℕ) (test : HeldKey → Bool) (keys : List HeldKey) (one : HeldKey) →
    find test keys ≡ Some one → lives_at now one.death ≡ false →
    alive_at now (remove_first test keys) ≡ alive_at now keys
unfolding alive_at
alive_at-removed now test [] one found dead = refl
alive_at-removed now test (key ∷ keys) one found dead =
    by_test (test key) found (λ later. alive_at-removed now test keys one later dead)
  where
    by_test : (is : Bool) → cond is (Some key) (find test keys) ≡ Some one →
        (find test keys ≡ Some one → alive_at now (remove_first test keys) ≡ alive_at now keys) →
        alive_at now (cond is keys (key ∷ remove_first test keys)) ≡ alive_at now (key ∷ keys)
    by_test true there later =
        let gone : lives_at now key.death ≡ false =
        ap (λ (k : HeldKey). lives_at now k.death) (same_some key one there) ∙ dead in
        rw gone refl
    by_test false there later =
        ap (λ (rest : List HeldKey). cond (lives_at now key.death) (key ∷ rest) rest) (later there)

-- ---- an addition

-- a place behind all others is at the end
pub values-push : (place : ℕ) (new : HeldKey) (es : List (ℕ × HeldKey)) →
    ((other : ℕ) → IsSome (lookup (is_at (nat_cmp other)) es) → other < place) →
    values_of (insert_entry nat_cmp es place new) ≡ values_of es ++ new ∷ []
values-push place new [] behind = refl
values-push place new (e ∷ es) behind =
    let above : e.0 < place = behind e.0 (head_there (nat_cmp e.0 e.0) (itself e.0)) in
    let later : nat_cmp place e.0 ≡ Greater = after e.0 place above in
    rw later (ap (λ (keys : List HeldKey). e.1 ∷ keys) (values-push place new es
    (λ other there. behind other (still_there (is_at (nat_cmp other) e.0) other there))))
  where
    itself : (n : ℕ) → nat_cmp n n ≡ Equal
    itself n = grind arith

    after : (n m : ℕ) → n < m → nat_cmp m n ≡ Greater
    after n m above = grind (arith, above)

    head_there : (order : Ordering) → order ≡ Equal →
        IsSome (cond (is_eq order) (Some e.1) (lookup (is_at (nat_cmp e.0)) es))
    head_there order same = rw same refl

    still_there : (here : Bool) (other : ℕ) → IsSome (lookup (is_at (nat_cmp other)) es) →
        IsSome (cond here (Some e.1) (lookup (is_at (nat_cmp other)) es))
    still_there true other there = refl
    still_there false other there = there

-- a replacement is in the place of the one with its blob
pub values-replace : (place : ℕ) (new old : HeldKey) (es : List (ℕ × HeldKey)) →
    IsStrictlySortedBy nat_cmp (keys_of es) → IsOnly (has_blob new.blob) (values_of es) →
    lookup (is_at (nat_cmp place)) es ≡ Some old → has_blob new.blob old ≡ true →
    values_of (insert_entry nat_cmp es place new) ≡ put_identity new (values_of es)
unfolding put_identity IsStrictlySortedBy
values-replace place new old [] order only there same = absurd cc
values-replace place new old (e ∷ es) order only there same =
    by_order (nat_cmp place e.0) (bytes_eq e.1.blob new.blob) refl refl there
    (λ later. values-replace place new old es order.1 only.1 later same)
  where
    rest_found : lookup (is_at (nat_cmp place)) es ≡ Some old →
        find (has_blob new.blob) (values_of es) ≡ Some old
    rest_found later = found_at (is_at (nat_cmp place)) (has_blob new.blob) es old only.1 later same

    by_order : (at : Ordering) (is : Bool) → nat_cmp place e.0 ≡ at → bytes_eq e.1.blob new.blob ≡ is →
        cond (is_eq at) (Some e.1) (lookup (is_at (nat_cmp place)) es) ≡ Some old →
        (lookup (is_at (nat_cmp place)) es ≡ Some old →
        values_of (insert_entry nat_cmp es place new) ≡ put_identity new (values_of es)) →
        values_of (match_ordering at ((place, new) ∷ e ∷ es) ((e.0, new) ∷ es) (e ∷ insert_entry nat_cmp es place new))
        ≡ cond is (new ∷ values_of es) (e.1 ∷ put_identity new (values_of es))
    by_order Less is at has found rest =
        none_is_not (lookup (is_at (nat_cmp place)) (e ∷ es)) old
        (lookup-none (is_at (nat_cmp place)) (e ∷ es) (none_below_head nat_cmp_total place e es order at)) there
    by_order Equal true at has found rest = refl
    by_order Equal false at has found rest =
        let yes : bytes_eq e.1.blob new.blob ≡ true =
        ap (λ (k : HeldKey). bytes_eq k.blob new.blob) (same_some e.1 old found) ∙ same in
        absurd cc
    by_order Greater true at has found rest =
        none_is_not (find (has_blob new.blob) (values_of es)) old (only.0 has) (rest_found found)
    by_order Greater false at has found rest =
        ap (λ (keys : List HeldKey). e.1 ∷ keys) (rest found)
