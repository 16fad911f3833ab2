-- Edits of the slots are edits of the pairs, and these are the steps of the definition.
use Rattle.std.proofs.Common.{◌≡◌, ◌∙◌, ℕ, zero, suc, ◌+◌, ◌-◌, ◌^◌, ◌<◌, ◌≤◌, List, [], ◌∷◌, ◌++◌, Bool, true, false, length, cond, get_or, set, refl, ap, arith, sym, subst, Option, Some, None, nat_lt, slice_get, Result, Ok, Err}
use Rattle.std.proofs.lemmas.List.{map-set, map-append, drop-map, take-map}
use Rattle.std.specs.Prelude.{OnOk}
use Rattle.std.proofs.lemmas.Option.{none-some, same_Some, slice_get-map}
use Rattle.std.specs.List.{count_by, filter, remove}
use Rattle.std.proofs.lemmas.Bool.Decides.{nat_tests}
use Rattle.std.proofs.lemmas.List.Sums.{length-filter}
use Rattle.std.specs.Option.{option_map}
use Rattle.filter_model.specs.Lists.{Listed}
use Rattle.filter_model.specs.Pairs.{Pair, is_spare, unlinked}
use Rattle.filter_model.specs.Filters.{Happening, Numbered, State, at_pair, find_pair, is_crowded, links, most_links, parted, put_pair, remove_pair, settled, spares_if, told, trimmed, trimmed_by, unlinked_by, unlinked_in, without}
use Rattle.filter_core.specs.declared.slot.Slot.{Slot}
use Rattle.filter_core.specs.Slots.{IsKept, IsRising, Leaves, numbered_of, pair_of, pairs_of}
use Rattle.filter_core.specs.Places.{IsPlace}
use Rattle.filter_core.proofs.PlaceLemmas.{length-pairs_of, rising-append, rising-higher, rising-put, rising-remove}

pairs_of-remove : (slots : List Slot) (place : ℕ) → pairs_of (remove slots place) ≡ remove (pairs_of slots) place
pairs_of-remove slots place = simp (map-append, drop-map, take-map)

pub pairs_of-push : (slots : List Slot) (slot : Slot) → pairs_of (slots ++ slot ∷ []) ≡ pairs_of slots ++ numbered_of slot ∷ []
pairs_of-push slots slot = map-append numbered_of slots (slot ∷ [])

within_place : (slots : List Slot) (number place : ℕ) → IsPlace number (pairs_of slots) place → place < length slots
within_place slots number place is =
    let same : length (pairs_of slots) ≡ length slots = length-pairs_of slots in
    omega (arith, is.within)

slice_get-within : (slots : List Slot) (place : ℕ) (slot : Slot) → place < length slots → slice_get slots place ≡ Some (get_or slots place slot)
slice_get-within [] place slot within = absurd (omega arith)
slice_get-within (first ∷ slots) zero slot within = refl
slice_get-within (first ∷ slots) (suc place) slot within = slice_get-within slots place slot (omega arith)

slice_get-set : (slots : List Slot) (place : ℕ) (slot : Slot) → place < length slots → slice_get (set slots place slot) place ≡ Some slot
slice_get-set [] place slot within = absurd (omega arith)
slice_get-set (first ∷ slots) zero slot within = refl
slice_get-set (first ∷ slots) (suc place) slot within = slice_get-set slots place slot (omega arith)

remove-set : (slots : List Slot) (place : ℕ) (slot : Slot) → place < length slots → remove (set slots place slot) place ≡ remove slots place
remove-set [] place slot within = absurd (omega arith)
remove-set (first ∷ slots) zero slot within = refl
remove-set (first ∷ slots) (suc place) slot within = ap (λ (l : List Slot). first ∷ l) (remove-set slots place slot (omega arith))

-- the slot at the place of a number
module _ (slots : List Slot) (number place : ℕ) (old : Slot) (is : IsPlace number (pairs_of slots) place) (here : old ≡ get_or slots place old) where
  pub there : slice_get slots place ≡ Some old
  there = slice_get-within slots place old (within_place slots number place is) ∙ ap Some (sym here)

  there_pair : slice_get (pairs_of slots) place ≡ Some (numbered_of old)
  there_pair = slice_get-map numbered_of slots place ∙ ap (option_map numbered_of) there

  pub found_slot : find_pair number (pairs_of slots) ≡ Some (pair_of old)
  found_slot = is.found (numbered_of old) there_pair

  pub number_of_slot : old.number ≡ number
  number_of_slot = is.numbered (numbered_of old) there_pair

  pub put_slot : (slot : Slot) → slot.number ≡ old.number → pairs_of (set slots place slot) ≡ put_pair number (pair_of slot) (pairs_of slots)
  put_slot slot same =
      map-set numbered_of slots place slot
      ∙ ap (λ n. set (pairs_of slots) place (record { number = n; pair = pair_of slot })) (same ∙ number_of_slot)
      ∙ sym (is.put (pair_of slot))

  pub remove_slot : pairs_of (remove slots place) ≡ remove_pair number (pairs_of slots)
  remove_slot = pairs_of-remove slots place ∙ sym is.removed

  pub remove_put : (slot : Slot) → pairs_of (remove (set slots place slot) place) ≡ remove_pair number (pairs_of slots)
  remove_put slot = ap pairs_of (remove-set slots place slot (within_place slots number place is)) ∙ remove_slot

  pub there_put : (slot : Slot) → slice_get (set slots place slot) place ≡ Some slot
  there_put slot = slice_get-set slots place slot (within_place slots number place is)

-- ---- the numbers go on rising

pub kept_rising : (pairs : List Numbered) (last : ℕ) → IsKept pairs last → IsRising 0 (2 ^ 64) pairs
kept_rising pairs last kept = rising-higher 0 last (2 ^ 64) pairs (omega (arith, kept.fits)) kept.rising

pub kept-put : (pairs : List Numbered) (last number : ℕ) (pair : Pair) → IsKept pairs last → IsKept (put_pair number pair pairs) last
kept-put pairs last number pair kept = record { rising = rising-put number 0 last pair pairs kept.rising; fits = kept.fits }

pub kept-remove : (pairs : List Numbered) (last number : ℕ) → IsKept pairs last → IsKept (remove_pair number pairs) last
kept-remove pairs last number kept = record { rising = rising-remove number 0 last pairs kept.rising; fits = kept.fits }

pub kept-joined : (pairs : List Numbered) (last : ℕ) (pair : Pair) → last < 2 ^ 64 - 1 → IsKept pairs last → IsKept (pairs ++ record { number = last + 1; pair = pair } ∷ []) (last + 1)
kept-joined pairs last pair below kept = record { rising = rising-append 0 last (last + 1) pair pairs (omega arith) kept.rising; fits = omega (arith, below) }

pub kept-numbered : (pairs : List Numbered) (last : ℕ) → last < 2 ^ 64 - 1 → IsKept pairs last → IsKept pairs (last + 1)
kept-numbered pairs last below kept = record { rising = rising-higher 0 last (last + 1) pairs (omega arith) kept.rising; fits = omega (arith, below) }

-- ---- steps

-- the pair stays open
pub steps_open : (event : Happening) (state : State) (number : ℕ) (pair left : Pair) → find_pair number state.pairs ≡ Some pair → Leaves true left (told event state.listed pair)
    → at_pair (find_pair number state.pairs) number event state ≡ record state { pairs = put_pair number left state.pairs; spares = spares_if (is_spare left) number state.spares; closes = []; parts = parted number pair.is_linked left.is_linked }
steps_open event state number pair left found leaves =
    ap (λ f. at_pair f number event state) found
    ∙ ap (λ b. settled b number pair (told event state.listed pair).pair state) (sym leaves.stays)
    ∙ ap (λ p. settled true number pair p state) (sym leaves.left)

-- it is closed
pub steps_closed : (event : Happening) (state : State) (number : ℕ) (pair left : Pair) → find_pair number state.pairs ≡ Some pair → Leaves false left (told event state.listed pair)
    → at_pair (find_pair number state.pairs) number event state ≡ record state { pairs = remove_pair number state.pairs; spares = without number state.spares; closes = number ∷ []; parts = [] }
steps_closed event state number pair left found leaves =
    ap (λ f. at_pair f number event state) found
    ∙ ap (λ b. settled b number pair (told event state.listed pair).pair state) (sym leaves.stays)

-- ---- connections

counted_by : (test : Bool) (slot : Slot) (some : List Slot) (all : List Numbered) → length some ≡ length all → length (cond test (slot ∷ some) some) ≡ length (cond test (numbered_of slot ∷ all) all)
counted_by true slot some all same = ap suc same
counted_by false slot some all same = same

as_many : (slots : List Slot) → length (filter (λ slot. slot.is_linked) slots) ≡ links (pairs_of slots)
as_many [] = refl
as_many (slot ∷ slots) =
    counted_by slot.is_linked slot (filter (λ each. each.is_linked) slots) (filter (λ one. one.pair.is_linked) (pairs_of slots)) (as_many slots)

-- slots and pairs with a connection are as many
pub counted : (slots : List Slot) → count_by (λ slot. slot.is_linked) slots ≡ links (pairs_of slots)
counted slots = sym (length-filter (λ slot. slot.is_linked) slots) ∙ as_many slots

few_by : (test : Bool) (one : Numbered) (some all : List Numbered) → length some ≤ length all → length (cond test (one ∷ some) some) ≤ length (one ∷ all)
few_by true one some all few = omega (arith, few)
few_by false one some all few = omega (arith, few)

few : (pairs : List Numbered) → links pairs ≤ length pairs
few [] = omega arith
few (one ∷ others) = few_by one.pair.is_linked one (filter (λ other. other.pair.is_linked) others) others (few others)

-- no more slots have a connection than there are
few_links : (slots : List Slot) → links (pairs_of slots) ≤ length slots
few_links slots = omega (arith, few (pairs_of slots), length-pairs_of slots)

-- where few pairs are open, there is a place
pub has_few : (slots : List Slot) (count : ℕ) → count ≡ length slots → count < most_links → nat_lt count most_links ≡ nat_lt (links (pairs_of slots)) most_links
has_few slots count is low = grind (arith, nat_tests, is, low, few_links slots)

-- ---- the state of the storage

abbrev pub state_of : Listed → List Slot → ℕ → List ℕ → List ℕ → List ℕ → State
state_of listed slots last spares closed parts = record {
  listed = listed;
  pairs = pairs_of slots;
  last_pair = last;
  spares = spares;
  closes = closed;
  parts = parts;
}

-- an event that leaves the pair open
pub tells_open : (listed : Listed) (slots : List Slot) (last : ℕ) (spares kept closed parts noted : List ℕ) (number place : ℕ) (event : Happening) (old slot : Slot) (stays : Bool)
    → IsPlace number (pairs_of slots) place → old ≡ get_or slots place old → slot.number ≡ old.number → Leaves stays (pair_of slot) (told event listed (pair_of old)) → stays ≡ true → closed ≡ [] → parts ≡ []
    → kept ≡ spares_if (is_spare (pair_of slot)) number spares → noted ≡ parts ++ parted number old.is_linked slot.is_linked
    → state_of listed (set slots place slot) last kept closed noted ≡ at_pair (find_pair number (pairs_of slots)) number event (state_of listed slots last spares closed parts)
tells_open listed slots last spares kept closed parts noted number place event old slot stays is here same leaves open_yet quiet unparted keeps notes =
    ap (λ (pairs : List Numbered). let s : State = record { listed = listed; pairs = pairs; last_pair = last; spares = kept; closes = closed; parts = noted } in s) (put_slot slots number place old is here slot same)
    ∙ ap (λ (left : List ℕ). let s : State = record { listed = listed; pairs = put_pair number (pair_of slot) (pairs_of slots); last_pair = last; spares = left; closes = closed; parts = noted } in s) keeps
    ∙ ap (λ (closes : List ℕ). let s : State = record { listed = listed; pairs = put_pair number (pair_of slot) (pairs_of slots); last_pair = last; spares = spares_if (is_spare (pair_of slot)) number spares; closes = closes; parts = noted } in s) quiet
    ∙ ap (λ (gone : List ℕ). let s : State = record { listed = listed; pairs = put_pair number (pair_of slot) (pairs_of slots); last_pair = last; spares = spares_if (is_spare (pair_of slot)) number spares; closes = []; parts = gone } in s)
    (notes ∙ ap (λ (l : List ℕ). l ++ parted number old.is_linked slot.is_linked) unparted)
    ∙ sym (steps_open event (state_of listed slots last spares closed parts) number (pair_of old) (pair_of slot) (found_slot slots number place old is here)
    (subst (λ (b : Bool). Leaves b (pair_of slot) (told event listed (pair_of old))) open_yet leaves))

-- one that closes it
pub tells_closed : (listed : Listed) (slots : List Slot) (last : ℕ) (spares closed parts : List ℕ) (number place : ℕ) (event : Happening) (old slot : Slot) (stays : Bool)
    → IsPlace number (pairs_of slots) place → old ≡ get_or slots place old → slot.number ≡ old.number → Leaves stays (pair_of slot) (told event listed (pair_of old)) → stays ≡ false → closed ≡ [] → parts ≡ []
    → state_of listed (remove (set slots place slot) place) last (without slot.number spares) (closed ++ slot.number ∷ []) parts ≡ at_pair (find_pair number (pairs_of slots)) number event (state_of listed slots last spares closed parts)
tells_closed listed slots last spares closed parts number place event old slot stays is here same leaves shut quiet unparted =
    ap (λ (pairs : List Numbered). let s : State = record { listed = listed; pairs = pairs; last_pair = last; spares = without slot.number spares; closes = closed ++ slot.number ∷ []; parts = parts } in s) (remove_put slots number place old is here slot)
    ∙ ap (λ (closes : List ℕ). let s : State = record { listed = listed; pairs = remove_pair number (pairs_of slots); last_pair = last; spares = without slot.number spares; closes = closes ++ slot.number ∷ []; parts = parts } in s) quiet
    ∙ ap (λ (n : ℕ). let s : State = record { listed = listed; pairs = remove_pair number (pairs_of slots); last_pair = last; spares = without n spares; closes = n ∷ []; parts = parts } in s) (same ∙ number_of_slot slots number place old is here)
    ∙ ap (λ (gone : List ℕ). let s : State = record { listed = listed; pairs = remove_pair number (pairs_of slots); last_pair = last; spares = without number spares; closes = number ∷ []; parts = gone } in s) unparted
    ∙ sym (steps_closed event (state_of listed slots last spares closed parts) number (pair_of old) (pair_of slot) (found_slot slots number place old is here)
    (subst (λ (b : Bool). Leaves b (pair_of slot) (told event listed (pair_of old))) shut leaves))

-- ---- a spare connection is given back

pub unlinks_slot : (slots : List Slot) (number place : ℕ) (old slot : Slot) → IsPlace number (pairs_of slots) place → old ≡ get_or slots place old → slot.number ≡ old.number → pair_of slot ≡ unlinked (pair_of old)
    → pairs_of (set slots place slot) ≡ unlinked_in number (pairs_of slots)
unlinks_slot slots number place old slot is here same left =
    put_slot slots number place old is here slot same
    ∙ ap (λ (pair : Pair). put_pair number pair (pairs_of slots)) left
    ∙ sym (ap (λ (found : Option Pair). unlinked_by found number (pairs_of slots)) (found_slot slots number place old is here))

pub unlinks_none : (pairs : List Numbered) (number : ℕ) → find_pair number pairs ≡ None → pairs ≡ unlinked_in number pairs
unlinks_none pairs number none = sym (ap (λ (found : Option Pair). unlinked_by found number pairs) none)

kept-by : (found : Option Pair) (pairs : List Numbered) (last number : ℕ) → IsKept pairs last → IsKept (unlinked_by found number pairs) last
kept-by None pairs last number kept = kept
kept-by (Some pair) pairs last number kept = kept-put pairs last number (unlinked pair) kept

pub kept_unlinked : (pairs left : List Numbered) (last number : ℕ) → IsKept pairs last → left ≡ unlinked_in number pairs → IsKept left last
kept_unlinked pairs left last number kept is =
    subst (λ (l : List Numbered). IsKept l last) (sym is) (kept-by (find_pair number pairs) pairs last number kept)

trims_empty : (test : Bool) (state : State) → trimmed_by test [] state ≡ state
trims_empty true state = refl
trims_empty false state = refl

no-first : (numbers : List ℕ) → slice_get numbers 0 ≡ None → numbers ≡ []
no-first [] none = refl
no-first (number ∷ later) none = absurd (none-some number (sym none))

-- none is spare
pub trims_none : (state : State) → slice_get state.spares 0 ≡ None → trimmed state ≡ state
trims_none state none =
    ap (λ (spares : List ℕ). trimmed_by (is_crowded state) spares state) (no-first state.spares none) ∙ trims_empty (is_crowded state) state

-- not too many are
pub trims_not : (state : State) → is_crowded state ≡ false → trimmed state ≡ state
trims_not state few = ap (λ (test : Bool). trimmed_by test state.spares state) few

-- too many are
pub trims_one : (state : State) (oldest : ℕ) → slice_get state.spares 0 ≡ Some oldest → is_crowded state ≡ true
    → trimmed state ≡ record state { pairs = unlinked_in oldest state.pairs; spares = without oldest state.spares; parts = state.parts ++ oldest ∷ [] }
trims_one state oldest first crowded = ap (λ (test : Bool). trimmed_by test state.spares state) crowded ∙ by_spares state.spares first
  where
    by_spares : (spares : List ℕ) → slice_get spares 0 ≡ Some oldest
        → trimmed_by true spares state ≡ record state { pairs = unlinked_in oldest state.pairs; spares = without oldest state.spares; parts = state.parts ++ oldest ∷ [] }
    by_spares [] is = absurd (none-some oldest is)
    by_spares (number ∷ later) is = ap (λ (l : ℕ). trimmed_by true (l ∷ later) state) (same_Some number oldest is)

-- what follows where memory sufficed
pub after_ok : {T E : Type 0} {P Q : Type 0} (result : Result T E) → (P → Q) → OnOk result P → OnOk result Q
after_ok (Ok value) step holds = step holds
after_ok (Err want) step holds = tt

-- ---- a list of blobs
