-- Lemmas on the ports that an event touched: there is room to list them, and all others are as they were.
use Rattle.std.proofs.Common.{◌≡◌, ◌≢◌, ℕ, zero, suc, ◌+◌, ◌^◌, ◌<◌, ◌≤◌, List, [], ◌∷◌, ◌++◌, length, set, refl, ap, arith, sym, subst, ◌∙◌, Some, is_some, slice_get, Bool, true, false, ◌==◌, ◌||◌, ◌⊎◌, inl, inr, if◌then◌else◌}
use Rattle.std.specs.List.{remove}
use Rattle.std.proofs.lemmas.Bool.{cases_eq, eq-eqb}
use Rattle.std.proofs.lemmas.Bool.Decides.{nat_tests}
use Rattle.std.proofs.lemmas.List.{length-append, length-map}
use Rattle.lists.specs.Keyed.{has_key}
use Rattle.lists.specs.Rising.{IsRisingList, inserted, is_among, removed}
use Rattle.lists.proofs.FirstLemmas.{find-push_other}
use Rattle.lists.proofs.KeyedLemmas.{differ}
use Rattle.lists.proofs.RisingLemmas.{is_among-above, is_among-inserted, length-inserted, rising_list, rising_list-inserted}
use Rattle.world_ports.specs.declared.Door.{Door}
use Rattle.agent_model.specs.State.{Port, change_port, find_port, new_port, number_of, numbers, remove_port}
use Rattle.agent_model.proofs.PortsLemmas.{find_port-apart, find_port-removed_apart}
use Rattle.agent_core.specs.Places.{IsPlace}
use Rattle.agent_core.specs.declared.slot.Slot.{Slot}
use Rattle.agent_core.specs.Slots.{IsListed, IsMarked, IsUntouched, MarkedPorts, Spares, port_of, ports_of}
use Rattle.agent_core.proofs.HelperLemmas.{open-change_port}
use Rattle.agent_core.proofs.KeptLemmas.{kept-changed, kept-joined, kept-refused, kept-removed, length-change_port, length-remove_slot, length-set_slots, ports_of-push, ports_of-remove, set_bytes, with_bytes, within_place}
use Rattle.agent_core.proofs.PlaceLemmas.{length-ports_of}

-- ---- how many there can be

-- one less, where it is there
length-removed : (number : ℕ) (xs : List ℕ) → is_among number xs ≡ true → length (removed number xs) + 1 ≡ length xs
length-removed number [] is = absurd (cc)
length-removed number (x ∷ xs) is = elim (cases_eq number x) [
  | inl here ↦ grind (arith, nat_tests)
  | inr apart ↦
      (let later : is_among number xs ≡ true = grind (arith, nat_tests) in
      let rest : length (removed number xs) + 1 ≡ length xs = length-removed number xs later in
      grind (arith, nat_tests))
]

-- and every other is there yet
among-removed : (m number : ℕ) (xs : List ℕ) → m ≢ number → is_among m xs ≡ true → is_among m (removed number xs) ≡ true
among-removed m number [] apart is = absurd (cc)
among-removed m number (x ∷ xs) apart is = elim (cases_eq m x) [
  | inl here ↦ (let other : (number == x) ≡ false = differ number x (λ e. apart (here ∙ sym e)) in grind (arith, nat_tests))
  | inr differs ↦
      (let later : is_among m xs ≡ true = grind (arith, nat_tests) in
      let rest : is_among m (removed number xs) ≡ true = among-removed m number xs apart later in
      grind (arith, nat_tests))
]

-- numbers that rise, each of which is among others, are no more than those
rising-within : (xs ys : List ℕ) → IsRisingList xs → ((m : ℕ) → is_among m xs ≡ true → is_among m ys ≡ true)
    → length xs ≤ length ys
rising-within [] ys rising within = omega arith
rising-within (x ∷ xs) ys rising within =
    let first : is_among x ys ≡ true = within x (grind (arith, nat_tests)) in
    let fewer = length-removed x ys first in
    let rest : length xs ≤ length (removed x ys) =
    rising-within xs (removed x ys) (rising_list x xs rising)
    (λ m is.
    let above : x < m = is_among-above x m xs rising is in
    among-removed m x ys (λ e. omega (arith, above, e)) (within m (grind (arith, nat_tests)))) in
    omega (arith, fewer, rest)

among-append : (m : ℕ) (xs ys : List ℕ) → is_among m (xs ++ ys) ≡ (is_among m xs || is_among m ys)
among-append m [] ys = refl
among-append m (x ∷ xs) ys =
    let rest : is_among m (xs ++ ys) ≡ (is_among m xs || is_among m ys) = among-append m xs ys in
    grind (arith, nat_tests)

-- an open port's number is among those of the ports
among-numbers : (m : ℕ) (ports : List Port) → is_among m (numbers ports) ≡ is_some (find_port m ports)
among-numbers m [] = refl
among-numbers m (port ∷ ports) =
    let rest : is_among m (numbers ports) ≡ is_some (find_port m ports) = among-numbers m ports in
    grind (arith, nat_tests)

-- numbers that rise, each of which is that of an open port or of one that was closed, are no more than these
few-known : (ports : List Port) (closed xs : List ℕ) → IsRisingList xs
    → ((m : ℕ) → is_among m xs ≡ true → (is_some (find_port m ports) || is_among m closed) ≡ true)
    → length xs ≤ length ports + length closed
few-known ports closed xs rising known =
    let all : length xs ≤ length (numbers ports ++ closed) =
    rising-within xs (numbers ports ++ closed) rising
    (λ m is.
    among-append m (numbers ports) closed ∙ ap (λ b. b || is_among m closed) (among-numbers m ports) ∙ known m is) in
    let both = length-append (numbers ports) closed in
    let same = length-map ports number_of in
    omega (arith, all, both, same)

-- with one number more, which is known too
known-inserted : (ports : List Port) (closed xs : List ℕ) (number : ℕ)
    → (is_some (find_port number ports) || is_among number closed) ≡ true
    → ((m : ℕ) → is_among m xs ≡ true → (is_some (find_port m ports) || is_among m closed) ≡ true)
    → (m : ℕ) → is_among m (inserted number xs) ≡ true → (is_some (find_port m ports) || is_among m closed) ≡ true
known-inserted ports closed xs number here known m is = elim (cases_eq number m) [
  | inl same ↦ subst (λ n. (is_some (find_port n ports) || is_among n closed) ≡ true) same here
  | inr apart ↦
      known m
      (let split = is_among-inserted m number xs in
      let other : (number == m) ≡ false = differ number m apart in
      sym (ap (λ b. b || is_among m xs) other) ∙ sym split ∙ is)
]

-- there is a port at a place of it
place-some : (ports : List Port) (place : ℕ) → place < length ports → is_some (slice_get ports place) ≡ true
place-some [] place within = absurd (omega arith)
place-some (port ∷ ports) zero within = refl
place-some (port ∷ ports) (suc place) within = place-some ports place (omega arith)

-- there is room to list an open port
pub touched_room : (slots : List Slot) (closed touched : List ℕ) (room number place : ℕ)
    → IsMarked (ports_of slots) (length slots) closed touched room → IsPlace number (ports_of slots) place
    → length (inserted number touched) ≤ room
touched_room slots closed touched room number place marked is =
    let ports = ports_of slots in
    let some : is_some (find_port number ports) ≡ true = ap is_some is.found ∙ place-some ports place is.within in
    let few =
    few-known ports closed (inserted number touched) (rising_list-inserted number touched marked.rising)
    (known-inserted ports closed touched number (ap (λ b. b || is_among number closed) some) marked.known) in
    omega (arith, few, length-ports_of slots, marked.fits)

-- as many are listed as are open or were closed, at the most
touched-few : (slots : List Slot) (closed touched : List ℕ) (room : ℕ) → IsMarked (ports_of slots) (length slots) closed touched room
    → length touched ≤ length slots + length closed
touched-few slots closed touched room marked =
    let few = few-known (ports_of slots) closed touched marked.rising marked.known in
    omega (arith, few, length-ports_of slots)

-- ---- what is listed

-- a port is open where it was, or was closed
either : (was is closed : Bool) → (was ≡ true → is ≡ true) → (was || closed) ≡ true → (is || closed) ≡ true
either true is closed leads known = ap (λ b. b || closed) (leads refl)
either false true closed leads known = refl
either false false closed leads known = known

or-later : (is closed : Bool) → closed ≡ true → (is || closed) ≡ true
or-later true closed is_in = refl
or-later false closed is_in = is_in

-- one port is changed under its number and its door, and is listed
pub listed-changed : (slots : List Slot) (closed touched : List ℕ) (closed_room room last number place : ℕ) (slot old : Slot)
    (more : ℕ) → IsListed slots closed closed_room touched room last → IsPlace number (ports_of slots) place
    → find_port number (ports_of slots) ≡ Some (port_of old) → slot.number ≡ old.number → slot.door ≡ old.door
    → room ≤ more → IsListed (set slots place slot) closed closed_room (inserted number touched) more last
listed-changed slots closed touched closed_room room last number place slot old more listed is found same door roomy =
    let ports = ports_of slots in
    let set_is = set_bytes slots number place slot old is found same door in
    let count : length (set slots place slot) ≡ length slots =
    length-set_slots slots number place slot (change_port number (with_bytes slot) ports) set_is
    ∙ length-change_port number (with_bytes slot) ports ∙ length-ports_of slots in
    let stays : (m : ℕ) → is_some (find_port m ports) ≡ true → is_some (find_port m (ports_of (set slots place slot))) ≡ true =
    λ m some. ap (λ ps. is_some (find_port m ps)) set_is ∙ open-change_port m number (with_bytes slot) ports (λ _. refl) some in
    let here : (is_some (find_port number ports) || is_among number closed) ≡ true =
    ap (λ f. is_some f || is_among number closed) found in
    record {
      kept = kept-changed slots closed closed_room last number place slot old listed.kept is found same door;
      marked = record {
        rising = rising_list-inserted number touched listed.marked.rising;
        known = λ m there. either (is_some (find_port m ports)) (is_some (find_port m (ports_of (set slots place slot)))) (is_among m closed) (stays m)
            (known-inserted ports closed touched number here listed.marked.known m there);
        fits = omega (arith, count, listed.marked.fits, roomy);
      };
    }

-- a port goes, and is among the closed ones
pub listed-removed : (slots : List Slot) (closed touched : List ℕ) (closed_room room last number place more : ℕ)
    → IsListed slots closed closed_room touched room last → IsPlace number (ports_of slots) place → closed_room ≤ more
    → IsListed (remove slots place) (inserted number closed) more touched room last
listed-removed slots closed touched closed_room room last number place more listed is roomy =
    let ports = ports_of slots in
    let within = within_place slots number place is in
    let fewer = length-remove_slot slots place within in
    let longer = length-inserted number closed in
    let left : ports_of (remove slots place) ≡ remove_port number ports = ports_of-remove slots place ∙ sym is.removed in
    record {
      kept = kept-removed slots closed closed_room last number place more listed.kept is roomy;
      marked = record {
        rising = listed.marked.rising;
        known = λ m there. by_number left (listed.marked.known m there) (cases_eq number m);
        fits = omega (arith, longer, fewer, listed.marked.fits);
      };
    }
  where
    by_number : {m : ℕ} → ports_of (remove slots place) ≡ remove_port number (ports_of slots)
        → (is_some (find_port m (ports_of slots)) || is_among m closed) ≡ true → (number ≡ m) ⊎ (number ≢ m)
        → (is_some (find_port m (ports_of (remove slots place))) || is_among m (inserted number closed)) ≡ true
    by_number {m} left known (inl here) =
        or-later (is_some (find_port m (ports_of (remove slots place)))) (is_among m (inserted number closed))
        (is_among-inserted m number closed ∙ (let same : (number == m) ≡ true = grind (arith, nat_tests) in ap (λ b. b || is_among m closed) same))
    by_number {m} left known (inr apart) =
        let other : (number == m) ≡ false = differ number m apart in
        ap (λ ps. is_some (find_port m ps) || is_among m (inserted number closed)) left
        ∙ ap (λ f. is_some f || is_among m (inserted number closed)) (find_port-removed_apart m number (ports_of slots) (λ e. apart (sym e)))
        ∙ ap (λ b. is_some (find_port m (ports_of slots)) || b) (is_among-inserted m number closed ∙ ap (λ b. b || is_among m closed) other)
        ∙ known

-- a port is listed that stays as it is
pub listed-touched : (slots : List Slot) (closed touched : List ℕ) (closed_room room last number place more : ℕ)
    → IsListed slots closed closed_room touched room last → IsPlace number (ports_of slots) place → room ≤ more
    → IsListed slots closed closed_room (inserted number touched) more last
listed-touched slots closed touched closed_room room last number place more listed is roomy =
    let ports = ports_of slots in
    let here : (is_some (find_port number ports) || is_among number closed) ≡ true =
    ap (λ b. b || is_among number closed) (ap is_some is.found ∙ place-some ports place is.within) in
    record {
      kept = listed.kept;
      marked = record {
        rising = rising_list-inserted number touched listed.marked.rising;
        known = known-inserted ports closed touched number here listed.marked.known;
        fits = omega (arith, listed.marked.fits, roomy);
      };
    }

-- it is listed then
pub among-put : (number : ℕ) (xs : List ℕ) → is_among number (inserted number xs) ≡ true
among-put number xs = is_among-inserted number number xs ∙ ap (λ b. b || is_among number xs) (eq-eqb number number refl)

-- a port joins, and is listed
pub listed-joined : (slots : List Slot) (closed touched : List ℕ) (closed_room room last more roomier : ℕ) (door : Door) (slot : Slot)
    → IsListed slots closed closed_room touched room last → port_of slot ≡ new_port (suc last) door
    → length slots + length closed + 1 ≤ more → more ≤ roomier → suc last < 2 ^ 64
    → IsListed (slots ++ slot ∷ []) closed more (inserted (suc last) touched) roomier (suc last)
listed-joined slots closed touched closed_room room last more roomier door slot listed new roomy wider below =
    let ports = ports_of slots in
    let count = length-append slots (slot ∷ []) in
    let pushed : ports_of (slots ++ slot ∷ []) ≡ ports ++ new_port (suc last) door ∷ [] =
    ports_of-push slots slot ∙ ap (λ port. ports ++ port ∷ []) new in
    let there : is_some (find_port (suc last) (ports_of (slots ++ slot ∷ []))) ≡ true =
    ap (λ ps. is_some (find_port (suc last) ps)) pushed ∙ found-pushed (suc last) door ports in
    let known : (m : ℕ) → is_among m touched ≡ true → (is_some (find_port m (ports_of (slots ++ slot ∷ []))) || is_among m closed) ≡ true =
    λ m is. either (is_some (find_port m ports)) (is_some (find_port m (ports_of (slots ++ slot ∷ [])))) (is_among m closed)
    (λ some. ap (λ ps. is_some (find_port m ps)) pushed ∙ open-pushed m (new_port (suc last) door) ports some) (listed.marked.known m is) in
    record {
      kept = kept-joined slots closed closed_room last more door slot listed.kept new roomy below;
      marked = record {
        rising = rising_list-inserted (suc last) touched listed.marked.rising;
        known = known-inserted (ports_of (slots ++ slot ∷ [])) closed touched (suc last) (ap (λ b. b || is_among (suc last) closed) there) known;
        fits = omega (arith, count, roomy, wider);
      };
    }
  where
    found-pushed : (number : ℕ) (door : Door) (ports : List Port) → is_some (find_port number (ports ++ new_port number door ∷ [])) ≡ true
    found-pushed number door [] = grind (arith, nat_tests)
    found-pushed number door (port ∷ ports) =
        let rest : is_some (find_port number (ports ++ new_port number door ∷ [])) ≡ true = found-pushed number door ports in
        grind (arith, nat_tests)

    open-pushed : (number : ℕ) (last : Port) (ports : List Port) → is_some (find_port number ports) ≡ true → is_some (find_port number (ports ++ last ∷ [])) ≡ true
    open-pushed number last [] some = absurd (cc)
    open-pushed number last (port ∷ ports) some =
        let rest : is_some (find_port number ports) ≡ true → is_some (find_port number (ports ++ last ∷ [])) ≡ true = open-pushed number last ports in
        by_test (port.number == number) rest some
      where
        by_test : (is : Bool) → (is_some (find_port number ports) ≡ true → is_some (find_port number (ports ++ last ∷ [])) ≡ true)
            → is_some (if is then Some port else find_port number ports) ≡ true
            → is_some (if is then Some port else find_port number (ports ++ last ∷ [])) ≡ true
        by_test true rest some = refl
        by_test false rest some = rest some

-- there is room for one that joins
pub joined_room : (slots : List Slot) (closed touched : List ℕ) (room number more : ℕ) → IsMarked (ports_of slots) (length slots) closed touched room
    → length slots + length closed + 1 ≤ more → length (inserted number touched) ≤ more
joined_room slots closed touched room number more marked roomy =
    let few = touched-few slots closed touched room marked in
    let longer = length-inserted number touched in
    omega (arith, few, longer, roomy)

-- one that isn't let in is among the closed ones
pub listed-refused : (slots : List Slot) (closed touched : List ℕ) (closed_room room last more roomier : ℕ)
    → IsListed slots closed closed_room touched room last → length slots + length closed + 1 ≤ more → length slots + length closed + 1 ≤ roomier
    → suc last < 2 ^ 64 → IsListed slots (inserted (suc last) closed) more touched roomier (suc last)
listed-refused slots closed touched closed_room room last more roomier listed roomy wider below =
    let longer = length-inserted (suc last) closed in
    record {
      kept = kept-refused slots closed closed_room last more listed.kept roomy below;
      marked = record {
        rising = listed.marked.rising;
        known = λ m is. still_known m (listed.marked.known m is);
        fits = omega (arith, longer, wider);
      };
    }
  where
    by_tests : (is here closed : Bool) → (is || closed) ≡ true → (is || (here || closed)) ≡ true
    by_tests true here closed known = refl
    by_tests false true closed known = refl
    by_tests false false closed known = known

    still_known : (m : ℕ) → (is_some (find_port m (ports_of slots)) || is_among m closed) ≡ true
        → (is_some (find_port m (ports_of slots)) || is_among m (inserted (suc last) closed)) ≡ true
    still_known m known =
        ap (λ b. is_some (find_port m (ports_of slots)) || b) (is_among-inserted m (suc last) closed)
        ∙ by_tests (is_some (find_port m (ports_of slots))) (suc last == m) (is_among m closed) known

-- more room is room
pub listed-roomier : (slots : List Slot) (closed touched : List ℕ) (closed_room room last more roomier : ℕ)
    → IsListed slots closed closed_room touched room last → closed_room ≤ more → room ≤ roomier
    → IsListed slots closed more touched roomier last
listed-roomier slots closed touched closed_room room last more roomier listed wide wider = record {
  kept = record {
    rising = listed.kept.rising;
    closed_rising = listed.kept.closed_rising;
    closed_fits = omega (arith, listed.kept.closed_fits, wide);
    fits = listed.kept.fits;
  };
  marked = record { rising = listed.marked.rising; known = listed.marked.known; fits = omega (arith, listed.marked.fits, wider) };
}

-- nothing is listed when an event begins
pub listed-begun : (slots : List Slot) (closed touched : List ℕ) (closed_room room last : ℕ)
    → IsListed slots closed closed_room touched room last → IsListed slots [] closed_room [] room last
listed-begun slots closed touched closed_room room last listed = record {
  kept = record {
    rising = listed.kept.rising;
    closed_rising = tt;
    closed_fits = omega (arith, listed.kept.closed_fits);
    fits = listed.kept.fits;
  };
  marked = record { rising = tt; known = λ m is. absurd (cc); fits = omega (arith, listed.marked.fits) };
}

-- ---- all others are as they were

-- the open ports of these slots
abbrev marked : List Slot → ℕ → (closed touched : List ℕ) → MarkedPorts
marked slots last closed touched = record { ports = ports_of slots; last = last; closed = closed; touched = touched }

-- a number that isn't among those with one put in is another, and wasn't before
not-inserted : (m number : ℕ) (xs : List ℕ) → is_among m (inserted number xs) ≡ false → (m ≢ number) × (is_among m xs ≡ false)
not-inserted m number xs not_in =
    let split : ((number == m) || is_among m xs) ≡ false = sym (is_among-inserted m number xs) ∙ not_in in
    (λ e. grind (arith, nat_tests), grind (arith, nat_tests))

-- a port is changed, and listed
pub spared-set : (slots : List Slot) (number place last : ℕ) (slot old : Slot) (closed touched : List ℕ)
    → IsPlace number (ports_of slots) place → find_port number (ports_of slots) ≡ Some (port_of old)
    → slot.number ≡ old.number → slot.door ≡ old.door → Spares (marked slots last closed touched)
    (marked (set slots place slot) last closed (inserted number touched))
spared-set slots number place last slot old closed touched is found same door m untouched =
    let other = not-inserted m number touched untouched.1 in (
      (untouched.0, other.1),
      ap (find_port m) (set_bytes slots number place slot old is found same door)
          ∙ find_port-apart m number (with_bytes slot) (ports_of slots) (λ p. refl) other.0,
    )

-- a port goes
pub spared-removed : (slots : List Slot) (number place last : ℕ) (closed touched : List ℕ)
    → IsPlace number (ports_of slots) place → Spares (marked slots last closed touched)
    (marked (remove slots place) last (inserted number closed) touched)
spared-removed slots number place last closed touched is m untouched =
    let other = not-inserted m number closed untouched.0 in (
      (other.1, untouched.1),
      ap (find_port m) (ports_of-remove slots place ∙ sym is.removed)
          ∙ find_port-removed_apart m number (ports_of slots) other.0,
    )

-- a port joins
pub spared-joined : (slots : List Slot) (slot : Slot) (number last : ℕ) (closed touched : List ℕ)
    → slot.number ≡ number → Spares (marked slots last closed touched)
    (marked (slots ++ slot ∷ []) number closed (inserted number touched))
spared-joined slots slot number last closed touched is m untouched =
    let other = not-inserted m number touched untouched.1 in (
      (untouched.0, other.1),
      ap (find_port m) (ports_of-push slots slot)
          ∙ find-push_other (has_key number_of m) (ports_of slots) (port_of slot) (differ slot.number m (λ e. other.0 (sym e ∙ is))),
    )

-- one isn't let in
pub spared-refused : (slots : List Slot) (number last : ℕ) (closed touched : List ℕ) → Spares (marked slots last closed touched)
    (marked slots number (inserted number closed) touched)
spared-refused slots number last closed touched m untouched =
    ((((not-inserted m number closed untouched.0).1, untouched.1)), refl)

-- a port is listed that stays as it is
pub spared-touched : (slots : List Slot) (number last : ℕ) (closed touched : List ℕ)
    → Spares (marked slots last closed touched) (marked slots last closed (inserted number touched))
spared-touched slots number last closed touched m untouched =
    ((untouched.0, (not-inserted m number touched untouched.1).1), refl)

-- and isn't untouched then
pub never_untouched : {A : Type 0} (number : ℕ) (closed touched : List ℕ) → IsUntouched number closed (inserted number touched) → A
never_untouched number closed touched untouched =
    let no : true ≡ false = sym (among-put number touched) ∙ untouched.1 in
    absurd (cc)
