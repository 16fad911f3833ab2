-- What a use of an identity leaves, by blobs and by numbers.
use Rattle.std.proofs.Common.{◌≡◌, ℕ, ◌-◌, ◌≤◌, ◌==◌, Bool, true, false, cond, eqb, List, [], ◌∷◌, Option, Some, None, refl, sym, ap, subst, ◌∙◌, arith}
use Rattle.std.specs.Str.{bytes_eq}
use Rattle.std.proofs.lemmas.Bool.{eqb-true}
use Rattle.std.proofs.lemmas.Slice.Eq.{bytes_eq-Decides}
use Rattle.identity_table.specs.Identities.{HaveOwnBlobs, HaveOwnNumbers, HeldKey, find_identity, find_number, in_front, spend_identity, used_by}
use Rattle.identity_table.proofs.NumberLaws.{blob_of_numbered}
use Rattle.identity_table.proofs.SpendLemmas.{find_number-spend, find_number-spend_other, only_uses, spend_nowhere}
use Rattle.agent_laws.specs.Grants.{AreNoMore, IsUsed, WasHeld}

-- ---- one identity

pub used_itself : (key : HeldKey) → IsUsed key key
used_itself key = record { same = refl; left = no_more key.uses }
  where
    no_more : (uses : Option ℕ) → AreNoMore uses uses
    no_more None = tt
    no_more (Some uses) = omega arith

pub used_in_turn : {one two three : HeldKey} → IsUsed one two → IsUsed two three → IsUsed one three
used_in_turn {one = one} {two = two} {three = three} first later = record {
  same = later.same ∙ ap (λ (k : HeldKey). record k { uses = three.uses }) first.same;
  left = fewer three.uses two.uses one.uses later.left first.left;
}
  where
    fewer : (a b c : Option ℕ) → AreNoMore a b → AreNoMore b c → AreNoMore a c
    fewer None None None ab bc = tt
    fewer None None (Some n) ab bc = absurd bc
    fewer None (Some m) c ab bc = absurd ab
    fewer (Some n) None c ab bc = absurd ab
    fewer (Some n) (Some m) None ab bc = absurd bc
    fewer (Some n) (Some m) (Some l) ab bc = omega (arith, ab, bc)

-- what is left of it was it
pub used_then : (key after : HeldKey) → used_by key.uses key ≡ Some after → IsUsed key after
used_then key after is = record {
  same = only_uses key.uses key after is;
  left = by_uses key.uses refl is;
}
  where
    by_uses : (uses : Option ℕ) → key.uses ≡ uses → used_by uses key ≡ Some after
        → AreNoMore after.uses uses
    by_uses None none same =
        let e : key ≡ after = cc in
        subst (λ (u : Option ℕ). AreNoMore u None) (sym none ∙ ap (λ (k : HeldKey). k.uses) e) tt
    by_uses (Some uses) some same = by_zero (uses - 1 == 0) same
      where
        by_zero : (gone : Bool)
            → cond gone None (Some (record key { uses = Some (uses - 1) })) ≡ Some after
            → AreNoMore after.uses (Some uses)
        by_zero true there = absurd cc
        by_zero false there =
            let e : record key { uses = Some (uses - 1) } ≡ after = cc in
            let fewer : uses - 1 ≤ uses = omega arith in
            subst (λ (k : HeldKey). AreNoMore k.uses (Some uses)) e fewer

-- ---- by number

pub was_held : (number : ℕ) (keys : List HeldKey) (key : HeldKey)
    → find_number number keys ≡ Some key → WasHeld number keys key
was_held number keys key found = record { was = key; found = found; used = used_itself key }

-- what a number finds after a use it found before
pub was_held-used : (used_one number last : ℕ) (keys : List HeldKey) (key : HeldKey)
    → HaveOwnNumbers last keys → find_number number (spend_identity used_one keys) ≡ Some key
    → WasHeld number keys key
was_held-used used_one number last keys key own found = by_test (eqb used_one number) refl
  where
    by_found : (before : Option HeldKey) → find_number number keys ≡ before → used_one ≡ number
        → WasHeld number keys key
    by_found None is same =
        let nothing : spend_identity number keys ≡ keys = spend_nowhere number keys is in
        let none : None ≡ Some key = sym is ∙ ap (find_number number) (sym nothing) ∙ ap (λ n. find_number number (spend_identity n keys)) (sym same) ∙ found in
        absurd cc
    by_found (Some was) is same = record {
      was = was;
      found = is;
      used = used_then was key
          (sym (find_number-spend number last keys was own is) ∙ ap (λ n. find_number number (spend_identity n keys)) (sym same) ∙ found);
    }

    by_test : (same : Bool) → eqb used_one number ≡ same → WasHeld number keys key
    by_test true is = by_found (find_number number keys) refl (eqb-true used_one number is)
    by_test false is =
        was_held number keys key (sym (find_number-spend_other used_one number keys is) ∙ found)

-- ---- by blob

-- what a blob finds after a use: what is left of the one that was used, where it is that one's
pub find-used : (blob : List ℕ) (number : ℕ) (one : HeldKey) (keys : List HeldKey)
    → HaveOwnBlobs keys → find_number number keys ≡ Some one
    → find_identity blob (spend_identity number keys) ≡ cond (bytes_eq one.blob blob) (used_by one.uses one) (find_identity blob keys)
unfolding find_identity find_number spend_identity HaveOwnBlobs
find-used blob number one [] own found = absurd cc
find-used blob number one (key ∷ keys) own found =
    by_test (eqb key.number number) found (λ there. blob_of_numbered number keys one own.1 there) (λ there. find-used blob number one keys own.1 there)
  where
    -- the first one is used
    fronted : (after : Option HeldKey) → used_by key.uses key ≡ after → (same : Bool)
        → bytes_eq key.blob blob ≡ same
        → find_identity blob (in_front after keys) ≡ cond same after (cond same (Some key) (find_identity blob keys))
    fronted None is true same =
        ap (λ b. find_identity b keys) (sym ((bytes_eq-Decides key.blob blob).0 same)) ∙ own.0
    fronted None is false same = refl
    fronted (Some after) is same test =
        let has : bytes_eq after.blob blob ≡ same = ap (λ (k : HeldKey). bytes_eq k.blob blob) (only_uses key.uses key after is) ∙ test in
        by_same same has
      where
        by_same : (same : Bool) → bytes_eq after.blob blob ≡ same
            → find_identity blob (after ∷ keys) ≡ cond same (Some after) (cond same (Some key) (find_identity blob keys))
        by_same true has = rw has refl
        by_same false has = rw has refl

    -- or a later one, which has another blob than the first
    behind : (first own_one : Bool) → bytes_eq key.blob blob ≡ first
        → bytes_eq one.blob blob ≡ own_one → find_identity one.blob keys ≡ Some one
        → find_identity blob (spend_identity number keys) ≡ cond own_one (used_by one.uses one) (find_identity blob keys)
        → cond first (Some key) (find_identity blob (spend_identity number keys)) ≡ cond own_one (used_by one.uses one) (cond first (Some key) (find_identity blob keys))
    behind true true is_first is_own there later =
        let equal : key.blob ≡ one.blob = (bytes_eq-Decides key.blob blob).0 is_first ∙ sym ((bytes_eq-Decides one.blob blob).0 is_own) in
        let none : None ≡ Some one = sym own.0 ∙ ap (λ b. find_identity b keys) equal ∙ there in
        absurd cc
    behind true false is_first is_own there later = refl
    behind false own_one is_first is_own there later = later

    by_test : (is : Bool) → cond is (Some key) (find_number number keys) ≡ Some one
        → (find_number number keys ≡ Some one → find_identity one.blob keys ≡ Some one)
        → (find_number number keys ≡ Some one → find_identity blob (spend_identity number keys) ≡ cond (bytes_eq one.blob blob) (used_by one.uses one) (find_identity blob keys))
        → find_identity blob (cond is (in_front (used_by key.uses key) keys) (key ∷ spend_identity number keys)) ≡ cond (bytes_eq one.blob blob) (used_by one.uses one) (cond (bytes_eq key.blob blob) (Some key) (find_identity blob keys))
    by_test true here there later =
        let e : key ≡ one = cc in
        subst (λ (k : HeldKey). find_identity blob (in_front (used_by key.uses key) keys) ≡ cond (bytes_eq k.blob blob) (used_by k.uses k) (cond (bytes_eq key.blob blob) (Some key) (find_identity blob keys))) e
        (fronted (used_by key.uses key) refl (bytes_eq key.blob blob) refl)
    by_test false here there later =
        behind (bytes_eq key.blob blob) (bytes_eq one.blob blob) refl refl (there here) (later here)
