-- Lemmas on the storage of the open ports.
use Rattle.std.proofs.Common.{◌≡◌, ℕ, zero, suc, ◌+◌, ◌^◌, ◌<◌, ◌≤◌, List, [], ◌∷◌, ◌++◌, length, get_or, set, refl, ap, arith, sym, ◌∙◌, Some, subst, slice_get}
use Rattle.std.proofs.lemmas.List.{map-set, map-append, drop-map, take-map, length-append}
use Rattle.std.proofs.lemmas.Option.{slice_get-map}
use Rattle.secret_buf.specs.Buffers.{Buffer, no_bytes}
use Rattle.dest_rule.specs.Chains.{ChainState, no_chain}
use Rattle.std.specs.List.{remove}
use Rattle.std.specs.Option.{option_map}
use Rattle.lists.specs.Keyed.{has_key}
use Rattle.lists.proofs.FirstLemmas.{length-change}
use Rattle.world_ports.specs.declared.Door.{Door}
use Rattle.agent_core.specs.declared.waits.Waits.TheVariants as waits
use Rattle.agent_core.specs.declared.slot.Slot.{Slot}
use Rattle.agent_core.specs.Places.{IsPlace}
use Rattle.lists.specs.Rising.{inserted}
use Rattle.lists.proofs.RisingLemmas.{length-inserted, rising_list-inserted}
use Rattle.agent_core.specs.Slots.{IsKept, port_of, ports_of, waits_of}
use Rattle.agent_core.proofs.PlaceLemmas.{length-ports_of}
use Rattle.agent_model.specs.KeyStates.{KeyState}
use Rattle.agent_model.specs.Sound.{IsRising}
use Rattle.agent_model.specs.Step.{attempts, take_frame}
use Rattle.agent_model.specs.Verdicts.{tell}
use Rattle.agent_core.specs.Served.{served_at}
use Rattle.wire_text.specs.Frames.{front_body}
use Rattle.agent_model.specs.State.{Port, UnderWay, change_port, find_port, new_port, remove_port, number_of}
use Rattle.agent_model.proofs.PortsLemmas.{find_port-change_port, rising-append, rising-change_port, rising-remove_port, rising_higher}

-- edits of the slots are edits of the ports
pub ports_of-remove : (slots : List Slot) (place : ℕ) → ports_of (remove slots place) ≡ remove (ports_of slots) place
ports_of-remove slots place = simp (map-append, drop-map, take-map)

pub ports_of-push : (slots : List Slot) (slot : Slot) → ports_of (slots ++ slot ∷ []) ≡ ports_of slots ++ port_of slot ∷ []
ports_of-push slots slot = map-append port_of slots (slot ∷ [])

-- the numbers fit the clock of ports
pub kept_rising : (slots : List Slot) (closed : List ℕ) (room last : ℕ) → IsKept slots closed room last → IsRising 0 (2 ^ 64) (ports_of slots)
kept_rising slots closed room last kept = rising_higher 0 last (2 ^ 64) (ports_of slots) (omega (arith, kept.fits)) kept.rising

-- a port at its place
pub within_place : (slots : List Slot) (number place : ℕ) → IsPlace number (ports_of slots) place → place < length slots
within_place slots number place is =
    let same : length (ports_of slots) ≡ length slots = length-ports_of slots in
    omega (arith, is.within)

slice_get-within : (slots : List Slot) (place : ℕ) (slot : Slot) → place < length slots → slice_get slots place ≡ Some (get_or slots place slot)
slice_get-within [] place slot within = absurd (omega arith)
slice_get-within (first ∷ slots) zero slot within = refl
slice_get-within (first ∷ slots) (suc place) slot within = slice_get-within slots place slot (omega arith)

-- the slot at the place of a port is that port
pub found_slot : (slots : List Slot) (number place : ℕ) (slot : Slot) → IsPlace number (ports_of slots) place → slot ≡ get_or slots place slot → find_port number (ports_of slots) ≡ Some (port_of slot)
found_slot slots number place slot is here =
    let within : place < length slots = within_place slots number place is in
    let got : slice_get slots place ≡ Some (get_or slots place slot) = slice_get-within slots place slot within in
    is.found ∙ slice_get-map port_of slots place ∙ ap (option_map port_of) (got ∙ ap Some (sym here))

-- ---- one port is changed

-- the slot at its place is set to what a change of the port gives
pub set_changed : (slots : List Slot) (number place : ℕ) (slot : Slot) (port : Port) (f : Port → Port) → IsPlace number (ports_of slots) place → find_port number (ports_of slots) ≡ Some port → port_of slot ≡ f port → ports_of (set slots place slot) ≡ change_port number f (ports_of slots)
set_changed slots number place slot port f is found same =
    map-set port_of slots place slot ∙ ap (set (ports_of slots) place) same ∙ sym (is.changed f port found)

-- under its number and its door, with these bytes and this chain
abbrev pub with_bytes : Slot → Port → Port
with_bytes slot port = record port {
  heard = slot.heard.live;
  owed = slot.owed;
  chain = slot.chain.bindings;
  attempted = slot.chain.attempted;
  waits = waits_of slot.waits;
}

-- a slot that was changed under its number and its door
same_port : (slot old : Slot) → slot.number ≡ old.number → slot.door ≡ old.door → port_of slot ≡ with_bytes slot (port_of old)
same_port slot old number door =
    ap (λ n. let p : Port = record (port_of slot) { number = n } in p) number
    ∙ ap (λ d. let p : Port = record (port_of slot) { number = old.number; door = d } in p) door

pub set_bytes : (slots : List Slot) (number place : ℕ) (slot old : Slot) → IsPlace number (ports_of slots) place → find_port number (ports_of slots) ≡ Some (port_of old) → slot.number ≡ old.number → slot.door ≡ old.door → ports_of (set slots place slot) ≡ change_port number (with_bytes slot) (ports_of slots)
set_bytes slots number place slot old is found same door =
    set_changed slots number place slot (port_of old) (with_bytes slot) is found (same_port slot old same door)

-- and found as the slot then
pub found_set : (slots : List Slot) (number place : ℕ) (slot old : Slot) → IsPlace number (ports_of slots) place → find_port number (ports_of slots) ≡ Some (port_of old) → slot.number ≡ old.number → slot.door ≡ old.door → find_port number (ports_of (set slots place slot)) ≡ Some (port_of slot)
found_set slots number place slot old is found same door =
    ap (find_port number) (set_bytes slots number place slot old is found same door)
    ∙ find_port-change_port number (with_bytes slot) (ports_of slots) (λ _. refl)
    ∙ ap (option_map (with_bytes slot)) found
    ∙ ap Some (sym (same_port slot old same door))

pub length-set_slots : (slots : List Slot) (number place : ℕ) (slot : Slot) (ports : List Port) → ports_of (set slots place slot) ≡ ports → length (set slots place slot) ≡ length ports
length-set_slots slots number place slot ports same =
    sym (length-ports_of (set slots place slot)) ∙ ap length same

pub length-change_port : (number : ℕ) (f : Port → Port) (ports : List Port) → length (change_port number f ports) ≡ length ports
length-change_port number f ports = length-change (has_key number_of number) f ports

-- one port is changed under its number and its door
pub kept-changed : (slots : List Slot) (closed : List ℕ) (room last number place : ℕ) (slot old : Slot) → IsKept slots closed room last → IsPlace number (ports_of slots) place → find_port number (ports_of slots) ≡ Some (port_of old) → slot.number ≡ old.number → slot.door ≡ old.door → IsKept (set slots place slot) closed room last
kept-changed slots closed room last number place slot old kept is found same door =
    let changed = set_bytes slots number place slot old is found same door in
    let P : List Port → Type 0 = λ ports. IsRising 0 last ports in
    let count : length (set slots place slot) ≡ length slots =
    length-set_slots slots number place slot (change_port number (with_bytes slot) (ports_of slots)) changed ∙ length-change_port number (with_bytes slot) (ports_of slots) ∙ length-ports_of slots in
    record {
      rising = subst P (sym changed) (rising-change_port number 0 last (with_bytes slot) (ports_of slots) (λ p. refl) kept.rising);
      closed_rising = kept.closed_rising;
      closed_fits = rw count kept.closed_fits;
      fits = kept.fits;
    }

-- ---- ports that go and come

pub length-remove_slot : (slots : List Slot) (place : ℕ) → place < length slots → length (remove slots place) + 1 ≡ length slots
length-remove_slot [] place within = absurd (omega arith)
length-remove_slot (slot ∷ slots) zero within = grind (arith, length-append {A = Slot})
length-remove_slot (slot ∷ slots) (suc place) within =
    let rest : length (remove slots place) + 1 ≡ length slots = length-remove_slot slots place (omega arith) in
    grind (arith, length-append {A = Slot})

-- one port goes, and is listed among the closed ones
pub kept-removed : (slots : List Slot) (closed : List ℕ) (room last number place more : ℕ) → IsKept slots closed room last → IsPlace number (ports_of slots) place → room ≤ more → IsKept (remove slots place) (inserted number closed) more last
kept-removed slots closed room last number place more kept is roomy =
    let same : ports_of (remove slots place) ≡ remove_port number (ports_of slots) = ports_of-remove slots place ∙ sym is.removed in
    let P : List Port → Type 0 = λ ports. IsRising 0 last ports in
    let within : place < length slots = within_place slots number place is in
    let fewer : length (remove slots place) + 1 ≡ length slots = length-remove_slot slots place within in
    let longer = length-inserted number closed in
    record {
      rising = subst P (sym same) (rising-remove_port number 0 last (ports_of slots) kept.rising);
      closed_rising = rising_list-inserted number closed kept.closed_rising;
      closed_fits = omega (arith, longer, kept.closed_fits);
      fits = kept.fits;
    }

-- there is room to list it there
pub closed_room : (slots : List Slot) (closed : List ℕ) (room last number place : ℕ) → IsKept slots closed room last → IsPlace number (ports_of slots) place → length (inserted number closed) ≤ room
closed_room slots closed room last number place kept is =
    let within : place < length slots = within_place slots number place is in
    let longer = length-inserted number closed in
    omega (arith, longer, kept.closed_fits)

-- one port more
pub kept-joined : (slots : List Slot) (closed : List ℕ) (room last more : ℕ) (door : Door) (slot : Slot) → IsKept slots closed room last → port_of slot ≡ new_port (suc last) door → length slots + length closed + 1 ≤ more → suc last < 2 ^ 64 → IsKept (slots ++ slot ∷ []) closed more (suc last)
kept-joined slots closed room last more door slot kept new roomy below =
    let same : ports_of (slots ++ slot ∷ []) ≡ ports_of slots ++ new_port (suc last) door ∷ [] = ports_of-push slots slot ∙ ap (λ port. ports_of slots ++ port ∷ []) new in
    let P : List Port → Type 0 = λ ports. IsRising 0 (suc last) ports in
    let count : length (slots ++ slot ∷ []) ≡ length slots + 1 = length-append slots (slot ∷ []) in
    record {
      rising = subst P (sym same) (rising-append 0 last (suc last) door (ports_of slots) (omega arith) kept.rising);
      closed_rising = kept.closed_rising;
      closed_fits = omega (arith, count);
      fits = below;
    }

-- one that isn't let in: the last number rises, and the port is listed among the closed ones
pub kept-refused : (slots : List Slot) (closed : List ℕ) (room last more : ℕ) → IsKept slots closed room last → length slots + length closed + 1 ≤ more → suc last < 2 ^ 64 → IsKept slots (inserted (suc last) closed) more (suc last)
kept-refused slots closed room last more kept roomy below =
    let longer = length-inserted (suc last) closed in
    record {
      rising = rising_higher 0 last (suc last) (ports_of slots) (omega arith) kept.rising;
      closed_rising = rising_list-inserted (suc last) closed kept.closed_rising;
      closed_fits = omega (arith, longer, roomy);
      fits = below;
    }

-- a slot with an empty buffer and no chain, which is owed nothing, is a new port
pub joined_port : (last number : ℕ) (door : Door) (heard : Buffer) (owed : List ℕ) (chain : ChainState) → number ≡ suc last → heard ≡ no_bytes → owed ≡ [] → chain ≡ no_chain → port_of (record { number = number; door = door; heard = heard; owed = owed; chain = chain; waits = waits.Nothing }) ≡ new_port (suc last) door
joined_port last number door heard owed chain next silent paid unbound =
    ap (λ n. port_of (record { number = n; door = door; heard = heard; owed = owed; chain = chain; waits = waits.Nothing })) next
    ∙ ap (λ b. port_of (record { number = suc last; door = door; heard = b; owed = owed; chain = chain; waits = waits.Nothing })) silent
    ∙ ap (λ bytes. port_of (record { number = suc last; door = door; heard = no_bytes; owed = bytes; chain = chain; waits = waits.Nothing })) paid
    ∙ ap (λ c. port_of (record { number = suc last; door = door; heard = no_bytes; owed = []; chain = c; waits = waits.Nothing })) unbound

-- ---- a request is taken

-- the port that is found is the slot's
pub same_found : (slots : List Slot) (number : ℕ) (old : Slot) (port : Port) → find_port number (ports_of slots) ≡ Some (port_of old) → find_port number (ports_of slots) ≡ Some port → port_of old ≡ port
same_found slots number old port found there = cc

-- the client is told what comes of it
pub serve_changed : (slots : List Slot) (number place : ℕ) (slot old : Slot) (wall body_len : ℕ) (keys : KeyState) (going : UnderWay) (port : Port) → IsPlace number (ports_of slots) place → find_port number (ports_of slots) ≡ Some (port_of old) → find_port number (ports_of slots) ≡ Some port → port_of slot ≡ tell (served_at body_len wall (port_of old) keys going).work.verdict (take_frame body_len (attempts keys.lock (front_body body_len old.heard.live)) (port_of old)) → ports_of (set slots place slot) ≡ change_port number (λ p. tell (served_at body_len wall port keys going).work.verdict (take_frame body_len (attempts keys.lock (front_body body_len port.heard)) p)) (ports_of slots)
serve_changed slots number place slot old wall body_len keys going port is found there told =
    set_changed slots number place slot (port_of old) (λ p. tell (served_at body_len wall port keys going).work.verdict (take_frame body_len (attempts keys.lock (front_body body_len port.heard)) p)) is found
    (told ∙ ap (λ (q : Port). tell (served_at body_len wall q keys going).work.verdict (take_frame body_len (attempts keys.lock (front_body body_len q.heard)) (port_of old))) (same_found slots number old port found there))
