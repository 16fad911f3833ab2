-- An ordered index of passphrases, and those that came in their order.
use Rattle.std.specs.Prelude.{is_some, unwrap_or}
use Rattle.std.proofs.Common.{◌≡◌, ℕ, zero, suc, ◌+◌, ◌<◌, ◌≤◌, Bool, true, false, cond, if◌then◌else◌, List, [], ◌∷◌, ◌++◌, length, map, Option, Some, None, refl, sym, ap, subst, ◌∙◌, arith}
use Rattle.std.specs.Prelude.{◌==◌, is_some}
use Rattle.std.specs.Cmp.{partial_equiv_from_equiv}
use Rattle.std.specs.Cmp.Lexicographic.{nat_list_eq_equiv, slice_cmp}
use Rattle.std.specs.List.{position, position_from, range_with_len}
use Rattle.std.specs.BTreeMap.{insert_entry}
use Rattle.std.specs.Ordering.{is_eq, match_ordering, nat_cmp}
use Rattle.std.specs.declared.cmp.Ordering.{Ordering}
use Rattle.std.specs.declared.cmp.Ordering.TheVariants.{Less, Equal, Greater}
use Rattle.std.specs.Str.{bytes_eq}
use Rattle.std.proofs.lemmas.Bool.Decides.{nat_tests}
use Rattle.std.proofs.lemmas.Iterator.Adapters.{position_from-zero}
use Rattle.std.proofs.lemmas.List.FromFn.{map-range_with_len_more, length-map-range_with_len}
use Rattle.std.proofs.lemmas.List.Sums.{sum_by-cons, sum_by_push}
use Rattle.std.proofs.lemmas.Map.Text.{is_eq-slice_cmp}
use Rattle.std.proofs.lemmas.Slice.Eq.{bytes_eq-Decides}
use Rattle.redact_core.specs.Places.{AreBelow, IsPlaced, kept_len, most_kept, passphrase_at, place_in, placed, room_of}
use Rattle.redact_core.specs.Redaction.{is_over, noted, number_of}

-- ---- positions

-- what stands there stays there, whatever follows
from_front : {X : Type 0} (p : X → Bool) (i k : ℕ) (xs ys : List X) → position_from p i xs ≡ Some k
    → position_from p i (xs ++ ys) ≡ Some k
from_front p i k [] ys found = absurd (cc)
from_front p i k (x ∷ xs) ys found =
    let later = from_front p (i + 1) k xs ys in
    grind (arith, nat_tests)

behind_by : {X : Type 0} (p : X → Bool) (i : ℕ) (x : X) (xs ys : List X) (b : Bool) → p x ≡ b
    → cond b (Some i) (position_from p (i + 1) xs) ≡ None
    → (position_from p (i + 1) xs ≡ None → position_from p (i + 1) (xs ++ ys) ≡ position_from p ((i + 1) + length xs) ys)
    → position_from p i ((x ∷ xs) ++ ys) ≡ position_from p (i + length (x ∷ xs)) ys
behind_by p i x xs ys true is none later = absurd (cc)
behind_by p i x xs ys false is none later =
    ap (λ b. cond b (Some i) (position_from p (i + 1) (xs ++ ys))) is ∙ later none
    ∙ ap (λ n. position_from p n ys) (omega arith)

-- what stands nowhere in front is found behind it, or nowhere
from_behind : {X : Type 0} (p : X → Bool) (i : ℕ) (xs ys : List X) → position_from p i xs ≡ None
    → position_from p i (xs ++ ys) ≡ position_from p (i + length xs) ys
from_behind p i [] ys none = ap (λ n. position_from p n ys) (omega arith)
from_behind p i (x ∷ xs) ys none =
    behind_by p i x xs ys (p x) refl none (from_behind p (i + 1) xs ys)

pub position-front : {X : Type 0} (p : X → Bool) (k : ℕ) (xs ys : List X) → position p xs ≡ Some k
    → position p (xs ++ ys) ≡ Some k
position-front p k xs ys found =
    position_from-zero p (xs ++ ys) ∙ from_front p 0 k xs ys (sym (position_from-zero p xs) ∙ found)

pub position-push : {X : Type 0} (p : X → Bool) (xs : List X) (y : X) → position p xs ≡ None
    → position p (xs ++ y ∷ []) ≡ cond (p y) (Some (length xs)) None
position-push p xs y none =
    position_from-zero p (xs ++ y ∷ []) ∙ from_behind p 0 xs (y ∷ []) (sym (position_from-zero p xs) ∙ none)
    ∙ ap (λ n. cond (p y) (Some n) None) (omega arith)

-- ---- those by their places

-- the index has this passphrase nowhere
abbrev IsNew : List ℕ → List (List ℕ × ℕ) → Type 0
IsNew passphrase entries = place_in entries passphrase ≡ None

abbrev put : List (List ℕ × ℕ) → List ℕ → ℕ → List (List ℕ × ℕ)
put entries passphrase place = insert_entry (slice_cmp nat_cmp) entries passphrase place

-- a new one makes the index longer by one
length-put_by : (order : Ordering) (entry : List ℕ × ℕ) (entries : List (List ℕ × ℕ)) (passphrase : List ℕ) (place : ℕ)
    → slice_cmp nat_cmp passphrase entry.0 ≡ order → IsNew passphrase (entry ∷ entries)
    → (IsNew passphrase entries → length (put entries passphrase place) ≡ suc (length entries))
    → length (put (entry ∷ entries) passphrase place) ≡ suc (length (entry ∷ entries))
length-put_by Less entry entries passphrase place is new later =
    ap (λ o. length (match_ordering o ((passphrase, place) ∷ entry ∷ entries) ((entry.0, place) ∷ entries) (entry ∷ put entries passphrase place))) is
length-put_by Equal entry entries passphrase place is new later =
    absurd (let there : Some entry.1 ≡ None = sym (ap (λ o. cond (is_eq o) (Some entry.1) (place_in entries passphrase)) is) ∙ new in cc)
length-put_by Greater entry entries passphrase place is new later =
    ap (λ o. length (match_ordering o ((passphrase, place) ∷ entry ∷ entries) ((entry.0, place) ∷ entries) (entry ∷ put entries passphrase place))) is
    ∙ ap suc (later (sym (ap (λ o. cond (is_eq o) (Some entry.1) (place_in entries passphrase)) is) ∙ new))

length-put : (entries : List (List ℕ × ℕ)) (passphrase : List ℕ) (place : ℕ) → IsNew passphrase entries
    → length (put entries passphrase place) ≡ suc (length entries)
length-put [] passphrase place new = refl
length-put (entry ∷ entries) passphrase place new =
    length-put_by (slice_cmp nat_cmp passphrase entry.0) entry entries passphrase place refl new
    (length-put entries passphrase place)

-- no place of the index is this one
abbrev IsFree : ℕ → List (List ℕ × ℕ) → Type 0
IsFree place [] = Unit {0}
IsFree place (entry ∷ entries) = ((entry.1 == place) ≡ false) × IsFree place entries

-- at another place is what was there
apart_by : (order : Ordering) (entry : List ℕ × ℕ) (entries : List (List ℕ × ℕ)) (passphrase : List ℕ) (place at : ℕ)
    → slice_cmp nat_cmp passphrase entry.0 ≡ order → IsNew passphrase (entry ∷ entries) → (place == at) ≡ false
    → (IsNew passphrase entries → passphrase_at at (put entries passphrase place) ≡ passphrase_at at entries)
    → passphrase_at at (put (entry ∷ entries) passphrase place) ≡ passphrase_at at (entry ∷ entries)
apart_by Less entry entries passphrase place at is new apart later =
    ap (λ o. passphrase_at at (match_ordering o ((passphrase, place) ∷ entry ∷ entries) ((entry.0, place) ∷ entries) (entry ∷ put entries passphrase place))) is
    ∙ ap (λ b. cond b passphrase (passphrase_at at (entry ∷ entries))) apart
apart_by Equal entry entries passphrase place at is new apart later =
    absurd (let there : Some entry.1 ≡ None = sym (ap (λ o. cond (is_eq o) (Some entry.1) (place_in entries passphrase)) is) ∙ new in cc)
apart_by Greater entry entries passphrase place at is new apart later =
    ap (λ o. passphrase_at at (match_ordering o ((passphrase, place) ∷ entry ∷ entries) ((entry.0, place) ∷ entries) (entry ∷ put entries passphrase place))) is
    ∙ ap (λ l. cond (entry.1 == at) entry.0 l)
    (later (sym (ap (λ o. cond (is_eq o) (Some entry.1) (place_in entries passphrase)) is) ∙ new))

apart : (entries : List (List ℕ × ℕ)) (passphrase : List ℕ) (place at : ℕ) → IsNew passphrase entries
    → (place == at) ≡ false → passphrase_at at (put entries passphrase place) ≡ passphrase_at at entries
apart [] passphrase place at new apart_is = ap (λ b. cond b passphrase []) apart_is
apart (entry ∷ entries) passphrase place at new apart_is =
    apart_by (slice_cmp nat_cmp passphrase entry.0) entry entries passphrase place at refl new apart_is
    (λ later. apart entries passphrase place at later apart_is)

-- at its own place it is itself
here_by : (order : Ordering) (entry : List ℕ × ℕ) (entries : List (List ℕ × ℕ)) (passphrase : List ℕ) (place : ℕ)
    → slice_cmp nat_cmp passphrase entry.0 ≡ order → IsNew passphrase (entry ∷ entries) → IsFree place (entry ∷ entries)
    → (place == place) ≡ true
    → (IsNew passphrase entries → passphrase_at place (put entries passphrase place) ≡ passphrase)
    → passphrase_at place (put (entry ∷ entries) passphrase place) ≡ passphrase
here_by Less entry entries passphrase place is new free same later =
    ap (λ o. passphrase_at place (match_ordering o ((passphrase, place) ∷ entry ∷ entries) ((entry.0, place) ∷ entries) (entry ∷ put entries passphrase place))) is
    ∙ ap (λ b. cond b passphrase (passphrase_at place (entry ∷ entries))) same
here_by Equal entry entries passphrase place is new free same later =
    absurd (let there : Some entry.1 ≡ None = sym (ap (λ o. cond (is_eq o) (Some entry.1) (place_in entries passphrase)) is) ∙ new in cc)
here_by Greater entry entries passphrase place is new free same later =
    ap (λ o. passphrase_at place (match_ordering o ((passphrase, place) ∷ entry ∷ entries) ((entry.0, place) ∷ entries) (entry ∷ put entries passphrase place))) is
    ∙ ap (λ b. cond b entry.0 (passphrase_at place (put entries passphrase place))) free.0
    ∙ later (sym (ap (λ o. cond (is_eq o) (Some entry.1) (place_in entries passphrase)) is) ∙ new)

here : (entries : List (List ℕ × ℕ)) (passphrase : List ℕ) (place : ℕ) → IsNew passphrase entries
    → IsFree place entries → (place == place) ≡ true → passphrase_at place (put entries passphrase place) ≡ passphrase
here [] passphrase place new free same = ap (λ b. cond b passphrase []) same
here (entry ∷ entries) passphrase place new free same =
    here_by (slice_cmp nat_cmp passphrase entry.0) entry entries passphrase place refl new free same
    (λ later. here entries passphrase place later free.1 same)

-- ---- places are below the length

free_of : (bound : ℕ) (entries : List (List ℕ × ℕ)) → AreBelow bound entries → IsFree bound entries
free_of bound [] below = tt
free_of bound (entry ∷ entries) below =
    let first : entry.1 < bound = below.0 in (grind (arith, nat_tests), free_of bound entries below.1)

below_more : (bound : ℕ) (entries : List (List ℕ × ℕ)) → AreBelow bound entries → AreBelow (suc bound) entries
below_more bound [] below = tt
below_more bound (entry ∷ entries) below = (omega (arith, below.0), below_more bound entries below.1)

below_put_by : (order : Ordering) (bound : ℕ) (entry : List ℕ × ℕ) (entries : List (List ℕ × ℕ)) (passphrase : List ℕ)
    → AreBelow bound (entry ∷ entries) → AreBelow (suc bound) (put entries passphrase bound)
    → AreBelow (suc bound) (match_ordering order ((passphrase, bound) ∷ entry ∷ entries) ((entry.0, bound) ∷ entries) (entry ∷ put entries passphrase bound))
below_put_by Less bound entry entries passphrase below later = (omega arith, below_more bound (entry ∷ entries) below)
below_put_by Equal bound entry entries passphrase below later = (omega arith, below_more bound entries below.1)
below_put_by Greater bound entry entries passphrase below later = (omega (arith, below.0), later)

below_put : (bound : ℕ) (entries : List (List ℕ × ℕ)) (passphrase : List ℕ) → AreBelow bound entries
    → AreBelow (suc bound) (put entries passphrase bound)
below_put bound [] passphrase below = (omega arith, tt)
below_put bound (entry ∷ entries) passphrase below =
    below_put_by (slice_cmp nat_cmp passphrase entry.0) bound entry entries passphrase below
    (below_put bound entries passphrase below.1)

-- ---- a new one stands behind those that came

same_below : (f g : ℕ → List ℕ) (a n : ℕ) → ((k : ℕ) → k < a + n → f k ≡ g k)
    → map f (range_with_len a n) ≡ map g (range_with_len a n)
same_below f g a zero same = refl
same_below f g a (suc n) same =
    ap (λ (x : List ℕ). x ∷ map f (range_with_len (a + 1) n)) (same a (omega arith))
    ∙ ap (λ (l : List (List ℕ)). g a ∷ l)
    (same_below f g (a + 1) n (λ k less. same k (omega (arith, less))))

not_same : (n k : ℕ) → k < n → (n == k) ≡ false
not_same n k less = grind (arith, nat_tests)

same_place : (n : ℕ) → (n == n) ≡ true
same_place n = grind (arith, nat_tests)

pub placed_put : (entries : List (List ℕ × ℕ)) (passphrase : List ℕ) → IsNew passphrase entries
    → AreBelow (length entries) entries
    → placed (put entries passphrase (length entries)) ≡ placed entries ++ passphrase ∷ []
placed_put entries passphrase new below =
    let n = length entries in
    let after : ℕ → List ℕ = λ k. passphrase_at k (put entries passphrase n) in
    let long : length (put entries passphrase n) ≡ n + 1 = length-put entries passphrase n new ∙ omega arith in
    ap (λ len. map after (range_with_len 0 len)) long
    ∙ map-range_with_len_more after 0 n n (omega arith)
    ∙ ap (λ (l : List (List ℕ)). l ++ after n ∷ [])
    (same_below after (λ k. passphrase_at k entries) 0 n (λ k less. apart entries passphrase n k new (not_same n k (omega (arith, less)))))
    ∙ ap (λ (x : List ℕ). placed entries ++ x ∷ [])
    (here entries passphrase n new (free_of n entries below) (same_place n))

pub length_placed : (entries : List (List ℕ × ℕ)) → length (placed entries) ≡ length entries
length_placed entries = length-map-range_with_len (λ k. passphrase_at k entries) 0 (length entries)

-- ---- where each is found then

bytes_eq-sym : (a b : List ℕ) → bytes_eq a b ≡ bytes_eq b a
bytes_eq-sym a b = (partial_equiv_from_equiv nat_list_eq_equiv).symm a b

found_by : (entries : List (List ℕ × ℕ)) (passphrase other : List ℕ) (is_same : Bool) (there : Option ℕ)
    → is_eq (slice_cmp nat_cmp passphrase other) ≡ is_same → IsNew passphrase entries
    → place_in entries other ≡ there → position (bytes_eq other) (placed entries) ≡ there
    → cond is_same (Some (length entries)) there ≡ position (bytes_eq other) (placed entries ++ passphrase ∷ [])
found_by entries passphrase other true (Some place) same new there found =
    let equal : passphrase ≡ other = (bytes_eq-Decides passphrase other).0 (sym (is_eq-slice_cmp passphrase other) ∙ same) in
    absurd (let none : Some place ≡ None = sym there ∙ ap (place_in entries) (sym equal) ∙ new in cc)
found_by entries passphrase other false (Some place) same new there found =
    sym (position-front (bytes_eq other) place (placed entries) (passphrase ∷ []) found)
found_by entries passphrase other is_same None same new there found =
    let test : bytes_eq other passphrase ≡ is_same =
    bytes_eq-sym other passphrase ∙ sym (is_eq-slice_cmp passphrase other) ∙ same in
    sym (position-push (bytes_eq other) (placed entries) passphrase found
    ∙ ap (λ b. cond b (Some (length (placed entries))) None) test
    ∙ ap (λ n. cond is_same (Some n) None) (length_placed entries))

-- an index in which a new passphrase was put behind those that came
pub placed_then : (entries later : List (List ℕ × ℕ)) (passphrase : List ℕ) (kept place : ℕ)
    → IsPlaced entries kept → IsNew passphrase entries → place ≡ length entries → later ≡ put entries passphrase place
    → ((other : List ℕ) → place_in later other ≡ cond (is_eq (slice_cmp nat_cmp passphrase other)) (Some place) (place_in entries other))
    → kept + (length passphrase + 64) ≤ most_kept → IsPlaced later (kept + (length passphrase + 64))
placed_then entries later passphrase kept place placed_is new at is_put updates fits =
    let put_at : later ≡ put entries passphrase (length entries) = is_put ∙ ap (put entries passphrase) at in
    let whole : placed later ≡ placed entries ++ passphrase ∷ [] = ap placed put_at ∙ placed_put entries passphrase new placed_is.below in
    record {
      found = λ other. updates other
          ∙ ap (λ n. cond (is_eq (slice_cmp nat_cmp passphrase other)) (Some n) (place_in entries other)) at
          ∙ found_by entries passphrase other (is_eq (slice_cmp nat_cmp passphrase other)) (place_in entries other) refl new refl (sym (placed_is.found other))
          ∙ sym (ap (position (bytes_eq other)) whole);
      below = subst (λ l. AreBelow (length l) l) (sym put_at)
          (subst (λ n. AreBelow n (put entries passphrase (length entries))) (sym (length-put entries passphrase (length entries) new))
          (below_put (length entries) entries passphrase placed_is.below));
      room = ap (λ n. n + (length passphrase + 64)) placed_is.room
          ∙ sym (ap kept_len whole ∙ sum_by_push room_of (placed entries) passphrase);
      fits = fits;
    }

-- ---- what came then

-- one that is there is noted already
pub noted_there : (entries : List (List ℕ × ℕ)) (passphrase : List ℕ) (kept place : ℕ) → IsPlaced entries kept
    → place_in entries passphrase ≡ Some place → noted passphrase (placed entries) ≡ placed entries
noted_there entries passphrase kept place placed_is there =
    ap (λ at. if is_some at then placed entries else placed entries ++ passphrase ∷ []) (sym (placed_is.found passphrase) ∙ there)

-- a new one stands behind the others
pub noted_new : (entries : List (List ℕ × ℕ)) (passphrase : List ℕ) (kept : ℕ) → IsPlaced entries kept
    → place_in entries passphrase ≡ None → noted passphrase (placed entries) ≡ placed entries ++ passphrase ∷ []
noted_new entries passphrase kept placed_is new =
    ap (λ at. if is_some at then placed entries else placed entries ++ passphrase ∷ []) (sym (placed_is.found passphrase) ∙ new)

-- they take no more room than they may
pub not_over : (entries : List (List ℕ × ℕ)) (kept : ℕ) → IsPlaced entries kept → is_over (placed entries) ≡ false
not_over entries kept placed_is =
    let room : kept_len (placed entries) ≤ most_kept = omega (arith, placed_is.room, placed_is.fits) in
    grind (arith, nat_tests)

-- with this one they do where its room is more than is left
pub over_then : (entries : List (List ℕ × ℕ)) (passphrase : List ℕ) (kept : ℕ) → IsPlaced entries kept
    → place_in entries passphrase ≡ None → most_kept < kept + (length passphrase + 64)
    → is_over (noted passphrase (placed entries)) ≡ true
over_then entries passphrase kept placed_is new more =
    let room : most_kept < kept_len (placed entries ++ passphrase ∷ []) =
    omega (arith, more, placed_is.room, sum_by_push room_of (placed entries) passphrase) in
    let over : is_over (placed entries ++ passphrase ∷ []) ≡ true = grind (arith, nat_tests) in
    ap is_over (noted_new entries passphrase kept placed_is new) ∙ over

-- so is what is kept when it was put there
pub noted_then : (entries later : List (List ℕ × ℕ)) (passphrase : List ℕ) (kept place : ℕ) → IsPlaced entries kept
    → place_in entries passphrase ≡ None → place ≡ length entries → later ≡ put entries passphrase place
    → placed later ≡ noted passphrase (placed entries)
noted_then entries later passphrase kept place placed_is new at is_put =
    ap placed (is_put ∙ ap (put entries passphrase) at) ∙ placed_put entries passphrase new placed_is.below
    ∙ sym (noted_new entries passphrase kept placed_is new)

-- ---- numbers

-- a new one has the next number
pub number_new : (entries : List (List ℕ × ℕ)) (passphrase : List ℕ) (kept : ℕ) → IsPlaced entries kept
    → place_in entries passphrase ≡ None → number_of passphrase (placed entries) ≡ length entries + 1
number_new entries passphrase kept placed_is new =
    ap (λ at. suc (unwrap_or at (length (placed entries)))) (sym (placed_is.found passphrase) ∙ new)
    ∙ ap suc (length_placed entries) ∙ omega arith

below_by : (bound : ℕ) (entry : List ℕ × ℕ) (entries : List (List ℕ × ℕ)) (passphrase : List ℕ) (place : ℕ) (b : Bool)
    → entry.1 < bound → cond b (Some entry.1) (place_in entries passphrase) ≡ Some place
    → (place_in entries passphrase ≡ Some place → place < bound) → place < bound
below_by bound entry entries passphrase place true first there later =
    let same : entry.1 ≡ place = cc in omega (arith, first, same)
below_by bound entry entries passphrase place false first there later = later there

below_at : (bound : ℕ) (entries : List (List ℕ × ℕ)) (passphrase : List ℕ) (place : ℕ) → AreBelow bound entries
    → place_in entries passphrase ≡ Some place → place < bound
below_at bound [] passphrase place below there = absurd (cc)
below_at bound (entry ∷ entries) passphrase place below there =
    below_by bound entry entries passphrase place (is_eq (slice_cmp nat_cmp passphrase entry.0)) below.0 there
    (below_at bound entries passphrase place below.1)

count_most : (passphrases : List (List ℕ)) → length passphrases ≤ kept_len passphrases
count_most [] = omega arith
count_most (passphrase ∷ passphrases) = omega (arith, sum_by-cons room_of passphrase passphrases, count_most passphrases)

-- its number is no greater than the room that all take
pub place_small : (entries : List (List ℕ × ℕ)) (passphrase : List ℕ) (kept place : ℕ) → IsPlaced entries kept
    → place_in entries passphrase ≡ Some place → place < most_kept
place_small entries passphrase kept place placed_is there =
    omega (
      arith,
      below_at (length entries) entries passphrase place placed_is.below there,
      length_placed entries,
      count_most (placed entries),
      placed_is.room,
      placed_is.fits,
    )

-- what isn't there
pub none_of : {A : Type 0} (there : Option A) → is_some there ≡ false → there ≡ None
none_of None is = refl
none_of (Some x) is = absurd (cc)
