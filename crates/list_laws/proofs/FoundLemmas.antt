-- The identities of a list in the order of a list of blobs: each blob finds its own, or none.
use Rattle.std.proofs.Common.{◌≡◌, ℕ, ◌==◌, List, [], ◌∷◌, ◌++◌, map, refl, sym, ap, ◌∙◌, arith, Bool, true, false, cond, eqb, Option, Some, None}
use Rattle.std.specs.List.{cons_option, filter, filter_map}
use Rattle.std.specs.Option.{option_and_then, option_map}
use Rattle.std.specs.Prelude.{not}
use Rattle.std.specs.Str.{bytes_eq}
use Rattle.std.proofs.lemmas.Bool.{eqb-true}
use Rattle.std.proofs.lemmas.Bool.Decides.{nat_tests}
use Rattle.std.proofs.lemmas.List.Elements.{filter_map-append}
use Rattle.std.proofs.lemmas.Slice.Eq.{bytes_eq-Decides}
use Rattle.identity_table.specs.Deaths.{lives_at}
use Rattle.identity_table.specs.Identities.{HaveOwnBlobs, HaveOwnNumbers, HeldKey, alive_at, find_identity, find_number, in_front, put_identity, remove_identity, spend_identity, used_by}
use Rattle.identity_table.proofs.AdditionLemmas.{put_identity-none}
use Rattle.identity_table.proofs.FindLemmas.{find-alive, find-put, find-remove, found_has, if_alive}
use Rattle.identity_table.proofs.NumberLaws.{blob_of_numbered, number_of_found}
use Rattle.identity_table.proofs.NumberLemmas.{found_has_number}
use Rattle.agent_laws.proofs.UseLemmas.{find-used}
use Rattle.list_laws.specs.Lists.{at_end}

-- ---- any lists

-- the same of each, the same of all
pub filter_map-same : {X Y : Type 0} (f g : X → Option Y) (xs : List X) → ((x : X) → f x ≡ g x)
    → filter_map f xs ≡ filter_map g xs
filter_map-same f g [] same = refl
filter_map-same f g (x ∷ xs) same =
    ap (λ one. cons_option one (filter_map f xs)) (same x) ∙ ap (cons_option (g x)) (filter_map-same f g xs same)

-- one behind another
twice-first : {Y Z : Type 0} (g : Y → Option Z) (first : Option Y) (ys : List Y) (zs : List Z)
    → filter_map g ys ≡ zs → filter_map g (cons_option first ys) ≡ cons_option (option_and_then g first) zs
twice-first g None ys zs rest = rest
twice-first g (Some y) ys zs rest = ap (cons_option (g y)) rest

pub filter_map-twice : {X Y Z : Type 0} (f : X → Option Y) (g : Y → Option Z) (xs : List X)
    → filter_map g (filter_map f xs) ≡ filter_map (λ x. option_and_then g (f x)) xs
filter_map-twice f g [] = refl
filter_map-twice f g (x ∷ xs) = twice-first g (f x) (filter_map f xs) _ (filter_map-twice f g xs)

-- what passes a test
abbrev pub if_passes : {X : Type 0} → (X → Bool) → X → Option X
if_passes test x = cond (test x) (Some x) None

filter-map : {X : Type 0} (test : X → Bool) (xs : List X) → filter test xs ≡ filter_map (if_passes test) xs
filter-map test [] = refl
filter-map test (x ∷ xs) = by_test (test x) (filter-map test xs)
  where
    by_test : (is : Bool) → filter test xs ≡ filter_map (if_passes test) xs
        → cond is (x ∷ filter test xs) (filter test xs) ≡ cons_option (cond is (Some x) None) (filter_map (if_passes test) xs)
    by_test true rest = ap (λ ys. x ∷ ys) rest
    by_test false rest = rest

-- each of it mapped
mapped-first : {Y Z : Type 0} (f : Y → Z) (first : Option Y) (ys : List Y) (zs : List Z)
    → map f ys ≡ zs → map f (cons_option first ys) ≡ cons_option (option_map f first) zs
mapped-first f None ys zs rest = rest
mapped-first f (Some y) ys zs rest = ap (λ more. f y ∷ more) rest

pub map-filter_map : {X Y Z : Type 0} (g : X → Option Y) (f : Y → Z) (xs : List X)
    → map f (filter_map g xs) ≡ filter_map (λ x. option_map f (g x)) xs
map-filter_map g f [] = refl
map-filter_map g f (x ∷ xs) = mapped-first f (g x) (filter_map g xs) _ (map-filter_map g f xs)

pub same_number : (number : ℕ) → (number == number) ≡ true
same_number number = grind (arith, nat_tests)

-- bytes are the same whichever come first
pub bytes_eq-sym : (a b : List ℕ) → bytes_eq a b ≡ bytes_eq b a
bytes_eq-sym a b = by_tests (bytes_eq a b) (bytes_eq b a) refl refl
  where
    by_tests : (one other : Bool) → bytes_eq a b ≡ one → bytes_eq b a ≡ other → one ≡ other
    by_tests true true is at = refl
    by_tests false false is at = refl
    by_tests true false is at =
        let equal : bytes_eq b a ≡ true = (bytes_eq-Decides b a).1 (sym ((bytes_eq-Decides a b).0 is)) in
        absurd (cc)
    by_tests false true is at =
        let equal : bytes_eq a b ≡ true = (bytes_eq-Decides a b).1 (sym ((bytes_eq-Decides b a).0 at)) in
        absurd (cc)

-- ---- identities in order

-- the identities are those that these blobs find, one after another
abbrev pub AreInOrder : List (List ℕ) → List HeldKey → Type 0
AreInOrder blobs keys = keys ≡ filter_map (λ blob. find_identity blob keys) blobs

-- they stay in order where each is changed, or leaves, and its blob finds what came of it
pub order-changed : (h : HeldKey → Option HeldKey) (blobs : List (List ℕ)) (keys new : List HeldKey)
    → new ≡ filter_map h keys
    → ((blob : List ℕ) → find_identity blob new ≡ option_and_then h (find_identity blob keys))
    → AreInOrder blobs keys → AreInOrder blobs new
order-changed h blobs keys new is found order =
    is ∙ ap (filter_map h) order ∙ filter_map-twice (λ blob. find_identity blob keys) h blobs
    ∙ filter_map-same (λ blob. option_and_then h (find_identity blob keys)) (λ blob. find_identity blob new) blobs (λ blob. sym (found blob))

-- nobody is in any order
pub order-none : (blobs : List (List ℕ)) → AreInOrder blobs []
unfolding find_identity
order-none [] = refl
order-none (blob ∷ blobs) = order-none blobs

-- those that are alive
pub order-alive : (second : ℕ) (blobs : List (List ℕ)) (keys : List HeldKey) → HaveOwnBlobs keys
    → AreInOrder blobs keys → AreInOrder blobs (alive_at second keys)
unfolding alive_at
order-alive second blobs keys own =
    order-changed (if_passes lives) blobs keys (filter lives keys) (filter-map lives keys)
    (λ blob. find-alive blob second keys own ∙ by_found (find_identity blob keys))
  where
    lives : HeldKey → Bool
    lives key = lives_at second key.death

    by_found : (found : Option HeldKey) → if_alive second found ≡ option_and_then (if_passes lives) found
    by_found None = refl
    by_found (Some key) = refl

-- ---- one is removed

-- it stays where it has another blob
abbrev unless_removed : List ℕ → HeldKey → Option HeldKey
unless_removed blob key = cond (bytes_eq blob key.blob) None (Some key)

removed-none : (blob : List ℕ) (keys : List HeldKey) → find_identity blob keys ≡ None
    → keys ≡ filter_map (unless_removed blob) keys
unfolding find_identity
removed-none blob [] none = refl
removed-none blob (key ∷ keys) none = by_test (bytes_eq key.blob blob) (bytes_eq-sym blob key.blob) none (removed-none blob keys)
  where
    by_test : (is : Bool) → bytes_eq blob key.blob ≡ is → cond is (Some key) (find_identity blob keys) ≡ None
        → (find_identity blob keys ≡ None → keys ≡ filter_map (unless_removed blob) keys)
        → key ∷ keys ≡ cons_option (cond (bytes_eq blob key.blob) None (Some key)) (filter_map (unless_removed blob) keys)
    by_test true same found rest = absurd (cc)
    by_test false same found rest =
        ap (λ more. key ∷ more) (rest found) ∙ ap (λ b. cons_option (cond b None (Some key)) (filter_map (unless_removed blob) keys)) (sym same)

removed-each : (blob : List ℕ) (keys : List HeldKey) → HaveOwnBlobs keys
    → remove_identity blob keys ≡ filter_map (unless_removed blob) keys
unfolding remove_identity HaveOwnBlobs find_identity
removed-each blob [] own = refl
removed-each blob (key ∷ keys) own = by_test (bytes_eq key.blob blob) refl (bytes_eq-sym blob key.blob) (removed-each blob keys own.1)
  where
    by_test : (is : Bool) → bytes_eq key.blob blob ≡ is → bytes_eq blob key.blob ≡ is
        → remove_identity blob keys ≡ filter_map (unless_removed blob) keys
        → cond is keys (key ∷ remove_identity blob keys) ≡ cons_option (cond (bytes_eq blob key.blob) None (Some key)) (filter_map (unless_removed blob) keys)
    by_test true is same rest =
        let equal : key.blob ≡ blob = (bytes_eq-Decides key.blob blob).0 is in
        removed-none blob keys (ap (λ b. find_identity b keys) (sym equal) ∙ own.0)
        ∙ ap (λ b. cons_option (cond b None (Some key)) (filter_map (unless_removed blob) keys)) (sym same)
    by_test false is same rest =
        ap (λ more. key ∷ more) rest ∙ ap (λ b. cons_option (cond b None (Some key)) (filter_map (unless_removed blob) keys)) (sym same)

pub order-removed : (removed : List ℕ) (blobs : List (List ℕ)) (keys : List HeldKey) → HaveOwnBlobs keys
    → AreInOrder blobs keys → AreInOrder blobs (remove_identity removed keys)
order-removed removed blobs keys own =
    order-changed (unless_removed removed) blobs keys (remove_identity removed keys) (removed-each removed keys own)
    (λ blob. find-remove blob removed keys own ∙ by_found blob (find_identity blob keys) refl)
  where
    either : (is : Bool) (found : Option HeldKey) → cond is found found ≡ found
    either true found = refl
    either false found = refl

    by_found : (blob : List ℕ) (found : Option HeldKey) → find_identity blob keys ≡ found
        → cond (bytes_eq removed blob) None found ≡ option_and_then (unless_removed removed) found
    by_found blob None is = either (bytes_eq removed blob) None
    by_found blob (Some key) is = ap (λ b. cond (bytes_eq removed b) None (Some key)) (sym (found_has blob keys key is))

-- ---- one is used

-- what is left of it, where it is the one of this addition
abbrev left_of : ℕ → HeldKey → Option HeldKey
left_of number key = cond (key.number == number) (used_by key.uses key) (Some key)

left-none : (number : ℕ) (keys : List HeldKey) → find_number number keys ≡ None
    → keys ≡ filter_map (left_of number) keys
unfolding find_number
left-none number [] none = refl
left-none number (key ∷ keys) none = by_test (key.number == number) none (left-none number keys)
  where
    by_test : (is : Bool) → cond is (Some key) (find_number number keys) ≡ None
        → (find_number number keys ≡ None → keys ≡ filter_map (left_of number) keys)
        → key ∷ keys ≡ cons_option (cond is (used_by key.uses key) (Some key)) (filter_map (left_of number) keys)
    by_test true found rest = absurd (cc)
    by_test false found rest = ap (λ more. key ∷ more) (rest found)

front-cons : (after : Option HeldKey) (keys : List HeldKey) → in_front after keys ≡ cons_option after keys
front-cons None keys = refl
front-cons (Some key) keys = refl

used-each : (number last : ℕ) (keys : List HeldKey) → HaveOwnNumbers last keys
    → spend_identity number keys ≡ filter_map (left_of number) keys
unfolding spend_identity HaveOwnNumbers find_number
used-each number last [] own = refl
used-each number last (key ∷ keys) own = by_test (eqb key.number number) refl (used-each number last keys own.2)
  where
    by_test : (is : Bool) → eqb key.number number ≡ is
        → spend_identity number keys ≡ filter_map (left_of number) keys
        → cond is (in_front (used_by key.uses key) keys) (key ∷ spend_identity number keys) ≡ cons_option (cond is (used_by key.uses key) (Some key)) (filter_map (left_of number) keys)
    by_test true is rest =
        let equal : key.number ≡ number = eqb-true key.number number is in
        front-cons (used_by key.uses key) keys
        ∙ ap (cons_option (used_by key.uses key)) (left-none number keys (ap (λ n. find_number n keys) (sym equal) ∙ own.1))
    by_test false is rest = ap (λ more. key ∷ more) rest

pub order-used : (number last : ℕ) (one : HeldKey) (blobs : List (List ℕ)) (keys : List HeldKey)
    → HaveOwnBlobs keys → HaveOwnNumbers last keys → find_number number keys ≡ Some one
    → AreInOrder blobs keys → AreInOrder blobs (spend_identity number keys)
order-used number last one blobs keys own numbers there =
    order-changed (left_of number) blobs keys (spend_identity number keys) (used-each number last keys numbers)
    (λ blob. find-used blob number one keys own there ∙ by_found blob (bytes_eq one.blob blob) (find_identity blob keys) refl refl)
  where
    its_blob : find_identity one.blob keys ≡ Some one
    its_blob = blob_of_numbered number keys one own there

    by_number : (blob : List ℕ) (key : HeldKey) → find_identity blob keys ≡ Some key → bytes_eq one.blob blob ≡ false
        → (is : Bool) → eqb key.number number ≡ is → Some key ≡ cond is (used_by key.uses key) (Some key)
    by_number blob key found other false is = refl
    by_number blob key found other true is =
        let equal : key.number ≡ number = eqb-true key.number number is in
        let both : Some key ≡ Some one = sym (number_of_found blob last keys key numbers found).1 ∙ ap (λ n. find_number n keys) equal ∙ there in
        let same_key : key ≡ one = cc in
        let same : bytes_eq one.blob blob ≡ true = (bytes_eq-Decides one.blob blob).1 (ap (λ (k : HeldKey). k.blob) (sym same_key) ∙ found_has blob keys key found) in
        absurd (cc)

    by_found : (blob : List ℕ) (same : Bool) (found : Option HeldKey) → bytes_eq one.blob blob ≡ same
        → find_identity blob keys ≡ found
        → cond same (used_by one.uses one) found ≡ option_and_then (left_of number) found
    by_found blob true None same is =
        let none : None ≡ Some one = sym is ∙ ap (λ b. find_identity b keys) (sym ((bytes_eq-Decides one.blob blob).0 same)) ∙ its_blob in
        absurd (cc)
    by_found blob false None same is = refl
    by_found blob true (Some key) same is =
        let both : Some key ≡ Some one = sym is ∙ ap (λ b. find_identity b keys) (sym ((bytes_eq-Decides one.blob blob).0 same)) ∙ its_blob in
        let same_key : one ≡ key = cc in
        let its : (key.number == number) ≡ true = ap (λ (k : HeldKey). k.number == number) (sym same_key) ∙ ap (λ n. n == number) (found_has_number number keys one there) ∙ same_number number in
        ap (λ (k : HeldKey). used_by k.uses k) same_key ∙ ap (λ b. cond b (used_by key.uses key) (Some key)) (sym its)
    by_found blob false (Some key) same is = by_number blob key is same (key.number == number) refl

-- ---- one is added

-- the new one in place of the one with its blob
abbrev in_place : HeldKey → HeldKey → Option HeldKey
in_place new key = Some (cond (bytes_eq key.blob new.blob) new key)

placed-none : (new : HeldKey) (keys : List HeldKey) → find_identity new.blob keys ≡ None
    → keys ≡ filter_map (in_place new) keys
unfolding find_identity
placed-none new [] none = refl
placed-none new (key ∷ keys) none = by_test (bytes_eq key.blob new.blob) none (placed-none new keys)
  where
    by_test : (is : Bool) → cond is (Some key) (find_identity new.blob keys) ≡ None
        → (find_identity new.blob keys ≡ None → keys ≡ filter_map (in_place new) keys)
        → key ∷ keys ≡ cond is new key ∷ filter_map (in_place new) keys
    by_test true found rest = absurd (cc)
    by_test false found rest = ap (λ more. key ∷ more) (rest found)

placed-each : (new was : HeldKey) (keys : List HeldKey) → HaveOwnBlobs keys
    → find_identity new.blob keys ≡ Some was → put_identity new keys ≡ filter_map (in_place new) keys
unfolding put_identity HaveOwnBlobs find_identity
placed-each new was [] own there = absurd (cc)
placed-each new was (key ∷ keys) own there = by_test (bytes_eq key.blob new.blob) refl there (placed-each new was keys own.1)
  where
    by_test : (is : Bool) → bytes_eq key.blob new.blob ≡ is
        → cond is (Some key) (find_identity new.blob keys) ≡ Some was
        → (find_identity new.blob keys ≡ Some was → put_identity new keys ≡ filter_map (in_place new) keys)
        → cond is (new ∷ keys) (key ∷ put_identity new keys) ≡ cond is new key ∷ filter_map (in_place new) keys
    by_test true is found rest =
        let equal : key.blob ≡ new.blob = (bytes_eq-Decides key.blob new.blob).0 is in
        ap (λ more. new ∷ more) (placed-none new keys (ap (λ b. find_identity b keys) (sym equal) ∙ own.0))
    by_test false is found rest = ap (λ more. key ∷ more) (rest found)

-- it keeps its place where one with its blob is there
pub order-placed : (new was : HeldKey) (blobs : List (List ℕ)) (keys : List HeldKey) → HaveOwnBlobs keys
    → find_identity new.blob keys ≡ Some was → AreInOrder blobs keys → AreInOrder blobs (put_identity new keys)
order-placed new was blobs keys own there =
    order-changed (in_place new) blobs keys (put_identity new keys) (placed-each new was keys own there)
    (λ blob. find-put blob new keys ∙ by_found blob (find_identity blob keys) (bytes_eq new.blob blob) refl refl)
  where
    by_found : (blob : List ℕ) (found : Option HeldKey) (same : Bool) → find_identity blob keys ≡ found
        → bytes_eq new.blob blob ≡ same → cond same (Some new) found ≡ option_and_then (in_place new) found
    by_found blob None true is same =
        let none : None ≡ Some was = sym is ∙ ap (λ b. find_identity b keys) (sym ((bytes_eq-Decides new.blob blob).0 same)) ∙ there in
        absurd (cc)
    by_found blob None false is same = refl
    by_found blob (Some key) same is test =
        let at : bytes_eq key.blob new.blob ≡ same = ap (λ b. bytes_eq b new.blob) (found_has blob keys key is) ∙ bytes_eq-sym blob new.blob ∙ test in
        by_test same at
      where
        by_test : (same : Bool) → bytes_eq key.blob new.blob ≡ same
            → cond same (Some new) (Some key) ≡ Some (cond (bytes_eq key.blob new.blob) new key)
        by_test true at = ap (λ b. Some (cond b new key)) (sym at)
        by_test false at = ap (λ b. Some (cond b new key)) (sym at)

-- and comes last where none is
others-found : (new : HeldKey) (keys : List HeldKey) (blobs : List (List ℕ)) → find_identity new.blob keys ≡ None
    → filter_map (λ blob. find_identity blob (put_identity new keys)) (filter (λ other. not (bytes_eq other new.blob)) blobs)
    ≡ filter_map (λ blob. find_identity blob keys) blobs
others-found new keys [] none = refl
others-found new keys (blob ∷ blobs) none =
    by_test (bytes_eq blob new.blob) refl (others-found new keys blobs none)
  where
    finds : List ℕ → Option HeldKey
    finds other = find_identity other (put_identity new keys)

    others : List (List ℕ)
    others = filter (λ other. not (bytes_eq other new.blob)) blobs

    by_test : (is : Bool) → bytes_eq blob new.blob ≡ is
        → filter_map finds others ≡ filter_map (λ other. find_identity other keys) blobs
        → filter_map finds (cond (not is) (blob ∷ others) others) ≡ cons_option (find_identity blob keys) (filter_map (λ other. find_identity other keys) blobs)
    by_test true is rest =
        let gone : find_identity blob keys ≡ None = ap (λ b. find_identity b keys) ((bytes_eq-Decides blob new.blob).0 is) ∙ none in
        rest ∙ ap (λ found. cons_option found (filter_map (λ other. find_identity other keys) blobs)) (sym gone)
    by_test false is rest =
        let same : find_identity blob (put_identity new keys) ≡ find_identity blob keys = find-put blob new keys ∙ ap (λ b. cond b (Some new) (find_identity blob keys)) (bytes_eq-sym new.blob blob ∙ is) in
        ap (λ found. cons_option found (filter_map finds others)) same ∙ ap (cons_option (find_identity blob keys)) rest

pub order-last : (new : HeldKey) (blobs : List (List ℕ)) (keys : List HeldKey)
    → find_identity new.blob keys ≡ None → AreInOrder blobs keys
    → AreInOrder (at_end new.blob blobs) (put_identity new keys)
order-last new blobs keys none order =
    put_identity-none new keys none
    ∙ ap (λ some. some ++ new ∷ []) (order ∙ sym (others-found new keys blobs none))
    ∙ ap (λ found. filter_map finds others ++ cons_option found []) (sym its)
    ∙ sym (filter_map-append finds others (new.blob ∷ []))
  where
    finds : List ℕ → Option HeldKey
    finds other = find_identity other (put_identity new keys)

    others : List (List ℕ)
    others = filter (λ other. not (bytes_eq other new.blob)) blobs

    its : finds new.blob ≡ Some new
    its = find-put new.blob new keys ∙ ap (λ b. cond b (Some new) (find_identity new.blob keys)) ((bytes_eq-Decides new.blob new.blob).1 refl)
