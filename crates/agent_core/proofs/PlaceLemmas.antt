-- The place of a port among slots whose numbers rise.
use Rattle.std.proofs.Common.{◌≡◌, ℕ, List, [], ◌∷◌, length, get_or, sym, ap, ◌∙◌, arith, Some, None, Result, Ok, Err, MatchOption, ◌<◌, slice_set, refl}
use Rattle.std.specs.List.{HoldsAt}
use Rattle.std.specs.List.Sorted.{IsBinarySearchResult, IsSearchInRange}
use Rattle.std.specs.Option.{option_map}
use Rattle.std.specs.Ordering.{nat_cmp}
use Rattle.std.specs.Result.{result_ok}
use Rattle.std.proofs.lemmas.Option.{slice_get-get_or}
use Rattle.secret_buf.specs.Buffers.{no_bytes}
use Rattle.lists.specs.Firsts.{IsFirst}
use Rattle.lists.specs.Keyed.{has_key}
use Rattle.lists.proofs.FirstLemmas.{changed_there, find-map, found_there, removed_there}
use Rattle.lists.proofs.SearchLemmas.{first-at, first-seen, rise-seen, searched_by}
use Rattle.dest_rule.specs.Chains.{no_chain}
use Rattle.world_ports.specs.declared.Door.TheVariants.{Clients}
use Rattle.agent_core.specs.declared.slot.Slot.{Slot}
use Rattle.agent_core.specs.declared.waits.Waits.TheVariants as waits
use Rattle.agent_core.specs.Slots.{port_of, ports_of}
use Rattle.agent_model.specs.Sound.{IsRising}
use Rattle.agent_model.specs.State.{Port, find_port, number_of}
use Rattle.agent_core.specs.Places.{IsPlace}

pub length-ports_of : (slots : List Slot) → length (ports_of slots) ≡ length slots
length-ports_of [] = refl
length-ports_of (slot ∷ slots) = grind (arith, length-ports_of slots)

-- the port of a slot of no port
no_port : Port
no_port = port_of (record { number = 0; door = Clients; heard = no_bytes; owed = []; chain = no_chain; waits = waits.Nothing })

-- the first port of the number is its place
place_of_first : (number : ℕ) (ports : List Port) (place : ℕ) → IsFirst (has_key number_of number) ports place → IsPlace number ports place
place_of_first number ports place at = record {
  within = at.within;
  found = found_there (has_key number_of number) ports place no_port at ∙ sym (slice_get-get_or ports place no_port at.within);
  changed = λ f port found.
      let here : get_or ports place port ≡ port = (let same : Some (get_or ports place port) ≡ Some port = sym (found_there (has_key number_of number) ports place port at) ∙ found in cc) in
      changed_there (has_key number_of number) f ports place port at ∙ ap (λ p. slice_set ports place (f p)) here;
  removed = removed_there (has_key number_of number) ports place at;
}

-- by what is found among the slots
seen_place : (slots : List Slot) (number : ℕ) (r : Result ℕ ℕ) → MatchOption (result_ok r) (find_port number (ports_of slots) ≡ None) (IsFirst (λ slot. has_key number_of number (port_of slot)) slots)
    → MatchOption (result_ok r) (find_port number (ports_of slots) ≡ None) (λ place. IsPlace number (ports_of slots) place)
seen_place slots number (Ok place) at = place_of_first number (ports_of slots) place (first-seen port_of (has_key number_of number) slots place at)
seen_place slots number (Err place) none = none

-- what a binary search by number answers among ports whose numbers rise
pub searched_ports : (slots : List Slot) (number high : ℕ) (r : Result ℕ ℕ) → IsSearchInRange r (length slots) → IsBinarySearchResult (λ slot. nat_cmp slot.number number) slots r → IsRising 0 high (ports_of slots) → MatchOption (result_ok r) (find_port number (ports_of slots) ≡ None) (λ place. IsPlace number (ports_of slots) place)
searched_ports slots number high (Ok place) within answer rising =
    seen_place slots number (Ok place)
    (searched_by (λ slot. number_of (port_of slot)) number 0 high slots (Ok place) within answer (rise-seen port_of number_of 0 high slots rising))
searched_ports slots number high (Err place) within answer rising =
    find-map port_of (has_key number_of number) (λ slot. has_key number_of number (port_of slot)) (λ _. refl) slots
    ∙ ap (option_map port_of)
    (searched_by (λ slot. number_of (port_of slot)) number 0 high slots (Err place) within answer (rise-seen port_of number_of 0 high slots rising))

-- the port at a place whose number it has
pub port_there : (slots : List Slot) (number high place : ℕ) (slot : Slot) → place < length slots → HoldsAt (λ other. slot ≡ other) slots place → slot.number ≡ number → IsRising 0 high (ports_of slots) → IsPlace number (ports_of slots) place
port_there slots number high place slot within at is rising =
    place_of_first number (ports_of slots) place
    (first-seen port_of (has_key number_of number) slots place
    (first-at (λ slot. number_of (port_of slot)) number 0 high slots place (rise-seen port_of number_of 0 high slots rising) within
    (λ other. ap (λ (one : Slot). one.number) (sym (at other)) ∙ is)))
