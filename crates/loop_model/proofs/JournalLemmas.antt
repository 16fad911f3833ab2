-- What may come next in a journal, and what that leaves.
use Rattle.std.proofs.Common.{◌≡◌, Bool, true, false, List, [], ◌∷◌, ◌++◌, length, Option, Some, None, refl, ap, ◌&&◌, ◌==◌}
use Rattle.std.specs.Prelude.{option_and_then}
use Rattle.std.specs.Str.{bytes_eq}
use Rattle.world_ports.specs.declared.entry.Entry.{Entry}
use Rattle.world_ports.specs.declared.entry.Entry.TheVariants as entry
use Rattle.agent_model.specs.State.{State, owed_of}
use Rattle.loop_model.specs.LegalJournal.{LoopState, after_entries, after_entry, after_if, after_if_legal, comes_next, is_read, is_taken, may_serve}
use Rattle.world_ports.specs.Worlds.{read_room}
use Rattle.loop_model.specs.Queues.{is_next}
use Rattle.loop_model.specs.declared.thing.Thing.{Thing}
use Rattle.loop_model.specs.declared.thing.Thing.TheVariants.{Accept, Read, Write}
use Rattle.loop_model.proofs.TestLemmas.{and_both}

-- ---- one entry

-- how it reads after an entry that may come
pub record Leads (reading after : LoopState) (next : Entry) : Type 0 where
  pub comes : comes_next reading next ≡ true
  pub left : after_entry reading next ≡ after

leads_by : (may : Bool) (reading after : LoopState) (next : Entry)
    → after_if may reading next ≡ Some after
    → (may ≡ true) × (after_entry reading next ≡ after)
leads_by true reading after next is =
    let same : after_entry reading next ≡ after = cc in (refl, same)
leads_by false reading after next is = cc

pub leads : (reading after : LoopState) (next : Entry) → after_if_legal reading next ≡ Some after
    → Leads reading after next
leads reading after next is =
    let parts = leads_by (comes_next reading next) reading after next is in
    record { comes = parts.0; left = parts.1 }

-- an entry that may come leads on
pub after_if_legal-is : (reading : LoopState) (next : Entry) → comes_next reading next ≡ true
    → after_if_legal reading next ≡ Some (after_entry reading next)
after_if_legal-is reading next may = ap (λ (b : Bool). after_if b reading next) may

-- ---- what is served is the first thing of the queue that can be served

abbrev pub is_in_turn : State → List Thing → Entry → Bool
is_in_turn state queue (entry.Bind door path answer) = true
is_in_turn state queue (entry.Poll wait items answer) = true
is_in_turn state queue (entry.Accept door answer) = is_next state queue (Accept door)
is_in_turn state queue (entry.Read port room bytes answer) = is_next state queue (Read port)
is_in_turn state queue (entry.Write port offered answer) = is_next state queue (Write port)
is_in_turn state queue (entry.Close port answer) = true
is_in_turn state queue (entry.Start job answer) = true
is_in_turn state queue (entry.Now answer) = true

pub in_turn : (reading : LoopState) (next : Entry) → comes_next reading next ≡ true
    → is_in_turn reading.state reading.line.queue next ≡ true
in_turn reading (entry.Bind door path answer) may = refl
in_turn reading (entry.Poll wait items answer) may = refl
in_turn reading (entry.Accept door answer) may =
    (and_both (may_serve reading) (is_next reading.state reading.line.queue (Accept door)) may).1
in_turn reading (entry.Read port room bytes answer) may =
    let next = is_next reading.state reading.line.queue (Read port) in
    let whole = (room == read_room) && is_read room bytes answer in
    (and_both next whole (and_both (may_serve reading) (next && whole) may).1).0
in_turn reading (entry.Write port offered answer) may =
    let next = is_next reading.state reading.line.queue (Write port) in
    let owed = bytes_eq offered (owed_of port reading.state) && is_taken (length offered) answer in
    (and_both next owed (and_both (may_serve reading) (next && owed) may).1).0
in_turn reading (entry.Close port answer) may = refl
in_turn reading (entry.Start job answer) may = refl
in_turn reading (entry.Now answer) may = refl

-- ---- entries one after another

turned_by : (taking : Option LoopState) (first later : List Entry)
    → ((reading : LoopState) → after_entries reading (first ++ later) ≡ option_and_then (λ after. after_entries after later) (after_entries reading first))
    → option_and_then (λ after. after_entries after (first ++ later)) taking
    ≡ option_and_then (λ after. after_entries after later) (option_and_then (λ after. after_entries after first) taking)
turned_by None first later rest = refl
turned_by (Some reading) first later rest = rest reading

pub after_entries-append : (from : LoopState) (first later : List Entry)
    → after_entries from (first ++ later) ≡ option_and_then (λ after. after_entries after later) (after_entries from first)
after_entries-append from [] later = refl
after_entries-append from (next ∷ first) later =
    turned_by (after_if_legal from next) first later (λ reading. after_entries-append reading first later)
