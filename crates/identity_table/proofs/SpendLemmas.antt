-- What a use of an identity leaves.
use Rattle.std.proofs.Common.{◌≡◌, ℕ, zero, suc, ◌+◌, ◌-◌, ◌≤◌, ◌==◌, Bool, true, false, cond, eqb, List, [], ◌∷◌, length, Option, Some, None, IfSome, refl, sym, ap, subst, ◌∙◌, arith}
use Rattle.std.specs.Str.{bytes_eq}
use Rattle.std.proofs.lemmas.Bool.{eqb-true}
use Rattle.std.proofs.lemmas.Bool.Decides.{nat_tests}
use Rattle.identity_table.specs.Identities.{HeldKey, AreShort, AreUsable, HaveOwnBlobs, HaveOwnNumbers, IsSound, entries_len, entry_len, find_identity, find_number, in_front, longest_private, remove_identity, spend_identity, used_by}
use Rattle.identity_table.specs.Tables.{spent_often}
use Rattle.identity_table.proofs.AdditionLemmas.{equal, same_bytes}
use Rattle.identity_table.proofs.KeptLemmas.{kept_len-spend}
use Rattle.identity_table.proofs.NumberLaws.{blob_of_numbered}

-- ---- one identity

-- an identity that is left differs in its uses alone
pub only_uses : (uses : Option ℕ) (key after : HeldKey) → used_by uses key ≡ Some after →
    after ≡ record key { uses = after.uses }
only_uses None key after is =
    let e : key ≡ after = cc in
    subst (λ (k : HeldKey). k ≡ record key { uses = k.uses }) e refl
only_uses (Some uses) key after is = by_zero (uses - 1 == 0) is
  where
    by_zero : (none : Bool) → cond none None (Some (record key { uses = Some (uses - 1) })) ≡ Some after →
        after ≡ record key { uses = after.uses }
    by_zero true is = absurd cc
    by_zero false is =
        let e : record key { uses = Some (uses - 1) } ≡ after = cc in
        subst (λ (k : HeldKey). k ≡ record key { uses = k.uses }) e refl

-- and has some left, where they are counted
still_usable : (uses : Option ℕ) (key after : HeldKey) → IfSome key.uses (λ u. 1 ≤ u) → key.uses ≡ uses →
    used_by uses key ≡ Some after → IfSome after.uses (λ u. 1 ≤ u)
still_usable None key after usable same is =
    let e : key ≡ after = cc in
    subst (λ (k : HeldKey). IfSome k.uses (λ u. 1 ≤ u)) e usable
still_usable (Some uses) key after usable same is = by_zero (uses - 1 == 0) refl is
  where
    by_zero : (none : Bool) → (uses - 1 == 0) ≡ none →
        cond none None (Some (record key { uses = Some (uses - 1) })) ≡ Some after →
        IfSome after.uses (λ u. 1 ≤ u)
    by_zero true test is = absurd cc
    by_zero false test is =
        let e : record key { uses = Some (uses - 1) } ≡ after = cc in
        subst (λ (k : HeldKey). IfSome k.uses (λ u. 1 ≤ u)) e (grind (arith, nat_tests, test))

-- ---- by number

-- in front of others, an identity of another number isn't found
front-other : (number : ℕ) (first : HeldKey) (keys : List HeldKey) (after : Option HeldKey) →
    used_by first.uses first ≡ after → eqb first.number number ≡ false →
    find_number number (in_front after keys) ≡ find_number number keys
unfolding find_number
front-other number first keys None is other = refl
front-other number first keys (Some after) is other =
    let same : eqb after.number number ≡ false =
    ap (λ (k : HeldKey). eqb k.number number) (only_uses first.uses first after is) ∙ other in
    rw same refl

-- the others are found as before
pub find_number-spend_other : (number other : ℕ) (keys : List HeldKey) → eqb number other ≡ false →
    find_number other (spend_identity number keys) ≡ find_number other keys
unfolding find_number spend_identity
find_number-spend_other number other [] differ = refl
find_number-spend_other number other (key ∷ keys) differ =
    by_test (eqb key.number number) refl (find_number-spend_other number other keys differ)
  where
    by_test : (is : Bool) → eqb key.number number ≡ is →
        find_number other (spend_identity number keys) ≡ find_number other keys →
        find_number other (cond is (in_front (used_by key.uses key) keys) (key ∷ spend_identity number keys))
        ≡ find_number other (key ∷ keys)
    by_test true test later =
        let here : eqb key.number other ≡ false =
        ap (λ n. eqb n other) (eqb-true key.number number test) ∙ differ in
        front-other other key keys (used_by key.uses key) refl here ∙ rw here refl
    by_test false test later = ap (λ found. cond (eqb key.number other) (Some key) found) later

-- the one itself is found with a use less, or no more
pub find_number-spend : (number last : ℕ) (keys : List HeldKey) (key : HeldKey) → HaveOwnNumbers last keys →
    find_number number keys ≡ Some key → find_number number (spend_identity number keys) ≡ used_by key.uses key
unfolding find_number spend_identity HaveOwnNumbers
find_number-spend number last [] key own found = absurd cc
find_number-spend number last (first ∷ keys) key own found =
    by_test (eqb first.number number) refl found (find_number-spend number last keys key own.2)
  where
    gone : (after : Option HeldKey) → used_by first.uses first ≡ after → eqb first.number number ≡ true →
        find_number number (in_front after keys) ≡ after
    gone None is test = subst (λ n. find_number n keys ≡ None) (eqb-true first.number number test) own.1
    gone (Some after) is test =
        let same : eqb after.number number ≡ true =
        ap (λ (k : HeldKey). eqb k.number number) (only_uses first.uses first after is) ∙ test in
        rw same refl

    by_test : (is : Bool) → eqb first.number number ≡ is → cond is (Some first) (find_number number keys) ≡ Some key →
        (find_number number keys ≡ Some key → find_number number (spend_identity number keys) ≡ used_by key.uses key) →
        find_number number (cond is (in_front (used_by first.uses first) keys) (first ∷ spend_identity number keys)) ≡ used_by key.uses key
    by_test true test here later =
        let e : first ≡ key = cc in
        gone (used_by first.uses first) refl test ∙ ap (λ (k : HeldKey). used_by k.uses k) e
    by_test false test there later = rw test (later there)

-- ---- tables stay sound

-- a use leaves numbers each one's own
pub own_numbers-spend : (number last : ℕ) (keys : List HeldKey) → HaveOwnNumbers last keys →
    HaveOwnNumbers last (spend_identity number keys)
unfolding spend_identity HaveOwnNumbers
own_numbers-spend number last [] own = tt
own_numbers-spend number last (key ∷ keys) own =
    by_test (eqb key.number number) refl (own_numbers-spend number last keys own.2)
  where
    fronted : (after : Option HeldKey) → used_by key.uses key ≡ after → HaveOwnNumbers last (in_front after keys)
    fronted None is = own.2
    fronted (Some after) is =
        let same : key.number ≡ after.number =
        sym (ap (λ (k : HeldKey). k.number) (only_uses key.uses key after is)) in
        (subst (λ n. n ≤ last) same own.0, subst (λ n. find_number n keys ≡ None) same own.1, own.2)

    by_test : (is : Bool) → eqb key.number number ≡ is → HaveOwnNumbers last (spend_identity number keys) →
        HaveOwnNumbers last (cond is (in_front (used_by key.uses key) keys) (key ∷ spend_identity number keys))
    by_test true test later = fronted (used_by key.uses key) refl
    by_test false test later =
        let differ : eqb number key.number ≡ false = grind (arith, nat_tests, test) in
        (own.0, find_number-spend_other number key.number keys differ ∙ own.1, later)

-- a blob that isn't there doesn't come
find_identity-spend_none : (number : ℕ) (blob : List ℕ) (keys : List HeldKey) → find_identity blob keys ≡ None →
    find_identity blob (spend_identity number keys) ≡ None
unfolding find_identity spend_identity
find_identity-spend_none number blob [] none = refl
find_identity-spend_none number blob (key ∷ keys) none =
    by_blob (bytes_eq key.blob blob) refl none (find_identity-spend_none number blob keys)
  where
    fronted : (after : Option HeldKey) → used_by key.uses key ≡ after → bytes_eq key.blob blob ≡ false →
        find_identity blob keys ≡ None → find_identity blob (in_front after keys) ≡ None
    fronted None is other none = none
    fronted (Some after) is other none =
        let same : bytes_eq after.blob blob ≡ false =
        ap (λ (k : HeldKey). bytes_eq k.blob blob) (only_uses key.uses key after is) ∙ other in
        rw same none

    by_test : (is : Bool) → bytes_eq key.blob blob ≡ false → find_identity blob keys ≡ None →
        find_identity blob (spend_identity number keys) ≡ None →
        find_identity blob (cond is (in_front (used_by key.uses key) keys) (key ∷ spend_identity number keys)) ≡ None
    by_test true other none later = fronted (used_by key.uses key) refl other none
    by_test false other none later = rw other later

    by_blob : (same : Bool) → bytes_eq key.blob blob ≡ same → cond same (Some key) (find_identity blob keys) ≡ None →
        (find_identity blob keys ≡ None → find_identity blob (spend_identity number keys) ≡ None) →
        find_identity blob (spend_identity number (key ∷ keys)) ≡ None
    by_blob true other none later = absurd cc
    by_blob false other none later = by_test (eqb key.number number) other none (later none)

-- a use leaves blobs each one's own
pub own_blobs-spend : (number : ℕ) (keys : List HeldKey) → HaveOwnBlobs keys → HaveOwnBlobs (spend_identity number keys)
unfolding spend_identity HaveOwnBlobs
own_blobs-spend number [] own = tt
own_blobs-spend number (key ∷ keys) own =
    by_test (eqb key.number number) (own_blobs-spend number keys own.1)
  where
    fronted : (after : Option HeldKey) → used_by key.uses key ≡ after → HaveOwnBlobs (in_front after keys)
    fronted None is = own.1
    fronted (Some after) is =
        let same : key.blob ≡ after.blob =
        sym (ap (λ (k : HeldKey). k.blob) (only_uses key.uses key after is)) in
        (subst (λ b. find_identity b keys ≡ None) same own.0, own.1)

    by_test : (is : Bool) → HaveOwnBlobs (spend_identity number keys) →
        HaveOwnBlobs (cond is (in_front (used_by key.uses key) keys) (key ∷ spend_identity number keys))
    by_test true later = fronted (used_by key.uses key) refl
    by_test false later = (find_identity-spend_none number key.blob keys own.0, later)

entries_len-spend : (number : ℕ) (keys : List HeldKey) → entries_len (spend_identity number keys) ≤ entries_len keys
unfolding spend_identity entries_len
entries_len-spend number [] = omega arith
entries_len-spend number (key ∷ keys) =
    by_test (eqb key.number number) (entries_len-spend number keys)
  where
    fronted : (after : Option HeldKey) → used_by key.uses key ≡ after → entries_len (in_front after keys) ≤ entry_len key + entries_len keys
    fronted None is = omega arith
    fronted (Some after) is =
        let same : entry_len after ≡ entry_len key =
        ap (λ (k : HeldKey). entry_len k) (only_uses key.uses key after is) in
        omega (arith, same)

    by_test : (is : Bool) → entries_len (spend_identity number keys) ≤ entries_len keys →
        entries_len (cond is (in_front (used_by key.uses key) keys) (key ∷ spend_identity number keys)) ≤ entry_len key + entries_len keys
    by_test true later = fronted (used_by key.uses key) refl
    by_test false later = omega (arith, later)

AreShort-spend : (number : ℕ) (keys : List HeldKey) → AreShort keys → AreShort (spend_identity number keys)
unfolding spend_identity AreShort
AreShort-spend number [] short = tt
AreShort-spend number (key ∷ keys) short =
    by_test (eqb key.number number) (AreShort-spend number keys short.1)
  where
    fronted : (after : Option HeldKey) → used_by key.uses key ≡ after → AreShort (in_front after keys)
    fronted None is = short.1
    fronted (Some after) is =
        let same : key.private ≡ after.private =
        sym (ap (λ (k : HeldKey). k.private) (only_uses key.uses key after is)) in
        (subst (λ (p : List ℕ). length p ≤ longest_private) same short.0, short.1)

    by_test : (is : Bool) → AreShort (spend_identity number keys) →
        AreShort (cond is (in_front (used_by key.uses key) keys) (key ∷ spend_identity number keys))
    by_test true later = fronted (used_by key.uses key) refl
    by_test false later = (short.0, later)

AreUsable-spend : (number : ℕ) (keys : List HeldKey) → AreUsable keys → AreUsable (spend_identity number keys)
unfolding spend_identity AreUsable
AreUsable-spend number [] usable = tt
AreUsable-spend number (key ∷ keys) usable =
    by_test (eqb key.number number) (AreUsable-spend number keys usable.1)
  where
    fronted : (after : Option HeldKey) → used_by key.uses key ≡ after → AreUsable (in_front after keys)
    fronted None is = usable.1
    fronted (Some after) is = (still_usable key.uses key after usable.0 refl is, usable.1)

    by_test : (is : Bool) → AreUsable (spend_identity number keys) →
        AreUsable (cond is (in_front (used_by key.uses key) keys) (key ∷ spend_identity number keys))
    by_test true later = fronted (used_by key.uses key) refl
    by_test false later = (usable.0, later)

pub IsSound-spend : (number last : ℕ) (keys : List HeldKey) → IsSound keys last → IsSound (spend_identity number keys) last
IsSound-spend number last keys sound = record {
  blobs = own_blobs-spend number keys sound.blobs;
  numbers = own_numbers-spend number last keys sound.numbers;
  fits = omega (arith, entries_len-spend number keys, sound.fits);
  small = omega (arith, kept_len-spend number keys, sound.small);
  short = AreShort-spend number keys sound.short;
  uses = AreUsable-spend number keys sound.uses;
}

-- ---- one use after another

-- one without a number of uses stays
pub unlimited_stays : (key : HeldKey) → key.uses ≡ None → used_by key.uses key ≡ Some key
unlimited_stays key none = ap (λ uses. used_by uses key) none

-- one with some left has one less
one_less : (key : HeldKey) (uses : ℕ) → key.uses ≡ Some (suc (suc uses)) → used_by key.uses key ≡ Some (record key { uses = Some (suc uses) })
one_less key uses some =
    let rest : suc (suc uses) - 1 ≡ suc uses = omega arith in
    let test : (suc uses == 0) ≡ false = grind (arith, nat_tests) in
    ap (λ u. used_by u key) some ∙ rw (rest, test) refl

-- one with a number of uses and one more has that number afterwards
pub used_left : (uses : ℕ) (key : HeldKey) → key.uses ≡ Some (uses + 1) → 1 ≤ uses →
    used_by key.uses key ≡ Some (record key { uses = Some uses })
used_left zero key is some = absurd (omega (arith, some))
used_left (suc uses) key is some =
    one_less key uses (is ∙ ap (λ (n : ℕ). Some n) (omega arith))

-- and after its last it is gone
pub none_left : (key : HeldKey) → key.uses ≡ Some 1 → used_by key.uses key ≡ None
none_left key one = ap (λ u. used_by u key) one

-- with so many uses it is held while fewer were made, each of which leaves one less
pub held_while_left : (times uses number last : ℕ) (keys : List HeldKey) (key : HeldKey) → IsSound keys last →
    find_number number keys ≡ Some key → key.uses ≡ Some (suc (times + uses)) →
    find_number number (spent_often times number keys) ≡ Some (record key { uses = Some (suc uses) })
held_while_left zero uses number last keys key sound found left =
    found ∙ ap (λ (u : Option ℕ). Some (record key { uses = u })) (left ∙ ap (λ n. Some (suc n)) (zero_more uses))
  where
    zero_more : (n : ℕ) → 0 + n ≡ n
    zero_more n = omega arith
held_while_left (suc times) uses number last keys key sound found left =
    let more : suc (suc times + uses) ≡ suc (suc (times + uses)) = omega arith in
    let after = find_number-spend number last keys key sound.numbers found
    ∙ one_less key (times + uses) (left ∙ ap (λ n. Some n) more) in
    held_while_left times uses number last (spend_identity number keys) (record key { uses = Some (suc (times + uses)) })
    (IsSound-spend number last keys sound) after refl

-- and gone once so many were
pub gone_when_used : (uses number last : ℕ) (keys : List HeldKey) (key : HeldKey) → IsSound keys last →
    find_number number keys ≡ Some key → key.uses ≡ Some (suc uses) →
    find_number number (spent_often (suc uses) number keys) ≡ None
gone_when_used zero number last keys key sound found left =
    find_number-spend number last keys key sound.numbers found ∙ none_left key left
gone_when_used (suc uses) number last keys key sound found left =
    let after = find_number-spend number last keys key sound.numbers found ∙ one_less key uses left in
    gone_when_used uses number last (spend_identity number keys) (record key { uses = Some (suc uses) })
    (IsSound-spend number last keys sound) after refl

-- ---- the list, where one is found

-- one of a number that no identity has changes nothing
pub spend_nowhere : (number : ℕ) (keys : List HeldKey) → find_number number keys ≡ None → spend_identity number keys ≡ keys
unfolding find_number spend_identity
spend_nowhere number [] none = refl
spend_nowhere number (key ∷ keys) none =
    by_test (eqb key.number number) none (spend_nowhere number keys)
  where
    by_test : (is : Bool) → cond is (Some key) (find_number number keys) ≡ None →
        (find_number number keys ≡ None → spend_identity number keys ≡ keys) →
        cond is (in_front (used_by key.uses key) keys) (key ∷ spend_identity number keys) ≡ key ∷ keys
    by_test true none later = absurd cc
    by_test false none later = ap (λ (rest : List HeldKey). key ∷ rest) (later none)

-- nor does a use of one whose uses aren't limited
pub spend_unlimited : (number : ℕ) (keys : List HeldKey) (one : HeldKey) → find_number number keys ≡ Some one →
    one.uses ≡ None → spend_identity number keys ≡ keys
unfolding find_number spend_identity
spend_unlimited number [] one found none = refl
spend_unlimited number (key ∷ keys) one found none =
    by_test (eqb key.number number) found (λ later. spend_unlimited number keys one later none)
  where
    by_test : (is : Bool) → cond is (Some key) (find_number number keys) ≡ Some one →
        (find_number number keys ≡ Some one → spend_identity number keys ≡ keys) →
        cond is (in_front (used_by key.uses key) keys) (key ∷ spend_identity number keys) ≡ key ∷ keys
    by_test true there later =
        let e : key ≡ one = cc in
        rw (unlimited_stays key (ap (λ (k : HeldKey). k.uses) e ∙ none)) refl
    by_test false there later = ap (λ (rest : List HeldKey). key ∷ rest) (later there)

-- the last use of one removes it
pub spend_last : (number : ℕ) (keys : List HeldKey) (one : HeldKey) → HaveOwnBlobs keys → find_number number keys ≡ Some one →
    used_by one.uses one ≡ None → remove_identity one.blob keys ≡ spend_identity number keys
unfolding find_number spend_identity remove_identity HaveOwnBlobs find_identity
spend_last number [] one own found last = refl
spend_last number (key ∷ keys) one own found last =
    by_test (eqb key.number number) (bytes_eq key.blob one.blob) refl found (λ later. spend_last number keys one own.1 later last)
  where
    by_test : (is same : Bool) → bytes_eq key.blob one.blob ≡ same → cond is (Some key) (find_number number keys) ≡ Some one →
        (find_number number keys ≡ Some one → remove_identity one.blob keys ≡ spend_identity number keys) →
        cond same keys (key ∷ remove_identity one.blob keys)
        ≡ cond is (in_front (used_by key.uses key) keys) (key ∷ spend_identity number keys)
    by_test true true has there later =
        let e : key ≡ one = cc in
        let gone : used_by key.uses key ≡ None = ap (λ (k : HeldKey). used_by k.uses k) e ∙ last in
        rw gone refl
    by_test true false has there later =
        let e : key ≡ one = cc in
        let yes : bytes_eq key.blob one.blob ≡ true = same_bytes key.blob one.blob (ap (λ (k : HeldKey). k.blob) e) in
        absurd cc
    by_test false true has there later =
        let behind : find_identity one.blob keys ≡ Some one = blob_of_numbered number keys one own.1 there in
        let none : find_identity one.blob keys ≡ None = subst (λ (b : List ℕ). find_identity b keys ≡ None) (equal key.blob one.blob has) own.0 in
        absurd cc
    by_test false false has there later = ap (λ (rest : List HeldKey). key ∷ rest) (later there)

-- one of which some is left takes as much of the answer
pub entries_len-left : (number : ℕ) (keys : List HeldKey) (one after : HeldKey) → find_number number keys ≡ Some one →
    used_by one.uses one ≡ Some after → entries_len (spend_identity number keys) ≡ entries_len keys
unfolding find_number spend_identity entries_len
entries_len-left number [] one after found is = refl
entries_len-left number (key ∷ keys) one after found is =
    by_test (eqb key.number number) found (λ later. entries_len-left number keys one after later is)
  where
    by_test : (test : Bool) → cond test (Some key) (find_number number keys) ≡ Some one →
        (find_number number keys ≡ Some one → entries_len (spend_identity number keys) ≡ entries_len keys) →
        entries_len (cond test (in_front (used_by key.uses key) keys) (key ∷ spend_identity number keys)) ≡ entry_len key + entries_len keys
    by_test true there later =
        let e : key ≡ one = cc in
        let left : used_by key.uses key ≡ Some after = ap (λ (k : HeldKey). used_by k.uses k) e ∙ is in
        let same : entry_len after ≡ entry_len key =
        ap (λ (k : HeldKey). entry_len k) (only_uses key.uses key after left) in
        rw left (omega (arith, same))
    by_test false there later = omega (arith, later there)

-- one that is found has at least one use left, where they are counted
pub usable_found : (number : ℕ) (keys : List HeldKey) (one : HeldKey) → AreUsable keys → find_number number keys ≡ Some one →
    IfSome one.uses (λ u. 1 ≤ u)
unfolding find_number AreUsable
usable_found number [] one usable found = absurd cc
usable_found number (key ∷ keys) one usable found =
    by_test (eqb key.number number) found (λ later. usable_found number keys one usable.1 later)
  where
    by_test : (is : Bool) → cond is (Some key) (find_number number keys) ≡ Some one →
        (find_number number keys ≡ Some one → IfSome one.uses (λ u. 1 ≤ u)) → IfSome one.uses (λ u. 1 ≤ u)
    by_test true there later =
        let e : key ≡ one = cc in
        subst (λ (k : HeldKey). IfSome k.uses (λ u. 1 ≤ u)) e usable.0
    by_test false there later = later there
