-- Fronts of legal journals, and where a poll may come.
use Rattle.std.proofs.Common.{◌≡◌, ℕ, Bool, true, false, List, [], ◌∷◌, ◌++◌, Option, Some, None, Result, Ok, Err, refl, subst, nat_eq}
use Rattle.std.specs.Option.{option_eq}
use Rattle.std.specs.Prelude.{option_and_then}
use Rattle.world_ports.specs.declared.answers.Accepted.TheVariants as accepted
use Rattle.world_ports.specs.declared.answers.Got.TheVariants as got
use Rattle.world_ports.specs.declared.answers.Polled.{Polled}
use Rattle.world_ports.specs.declared.answers.Polled.TheVariants as polled
use Rattle.world_ports.specs.declared.answers.Ready.{Ready}
use Rattle.world_ports.specs.declared.answers.WorldFault.{WorldFault}
use Rattle.world_ports.specs.declared.answers.WorldFault.TheVariants.{Failed, Memory}
use Rattle.world_ports.specs.declared.answers.Wrote.TheVariants as wrote
use Rattle.world_ports.specs.declared.entry.Entry.{Entry}
use Rattle.world_ports.specs.declared.entry.Entry.TheVariants as entry
use Rattle.world_ports.specs.declared.events.Moment.{Moment}
use Rattle.agent_model.specs.State.{State}
use Rattle.loop_model.specs.Dues.{Closing, Due, Free, Nothing, NowFor, Polling, due_after, due_look, due_of, is_polling, wait_of}
use Rattle.loop_model.specs.Fronts.{HasFront, IsAtRest, RestsAfter}
use Rattle.loop_model.specs.LegalJournal.{LoopState, after_entries, after_entry, after_if_legal, closed_by, comes_next, events_brought, in_state}
use Rattle.loop_model.specs.Lines.{Line, is_idle}
use Rattle.loop_model.proofs.JournalLemmas.{leads}
use Rattle.loop_model.proofs.TestLemmas.{and_both}

-- ---- fronts

front_by : (found : Option LoopState) (to : LoopState) (first later : List Entry)
    → ((reading : LoopState) → after_entries reading (first ++ later) ≡ Some to → HasFront reading to first later)
    → option_and_then (λ after. after_entries after (first ++ later)) found ≡ Some to
    → (reached : LoopState) × (option_and_then (λ after. after_entries after first) found ≡ Some reached) × (after_entries reached later ≡ Some to)
front_by None to first later rest legal = cc
front_by (Some reading) to first later rest legal =
    let front = rest reading legal in (front.reached, front.front, front.rest)

pub has_front : (from to : LoopState) (first later : List Entry)
    → after_entries from (first ++ later) ≡ Some to → HasFront from to first later
has_front from to [] later legal = record { reached = from; front = refl; rest = legal }
has_front from to (next ∷ first) later legal =
    let front = front_by (after_if_legal from next) to first later (λ reading rest. has_front reading to first later rest) legal in
    record { reached = front.0; front = front.1; rest = front.2 }

-- ---- where a poll may come, there is nothing to do

abbrev Rests : Due → State → Line → Type 0
Rests Free state line = Unit {0}
Rests (NowFor event) state line = Unit {0}
Rests (Closing port later) state line = Unit {0}
Rests Polling state line = is_idle state line ≡ true
Rests Nothing state line = Unit {0}

abbrev IsWell : LoopState → Type 0
IsWell reading = Rests reading.due reading.state reading.line

well_due : (closes : List ℕ) (state : State) (line : Line) → Rests (due_of closes) state line
well_due [] state line = tt
well_due (port ∷ later) state line = tt

well_look : (closes : List ℕ) (idle : Bool) (state : State) (line : Line)
    → is_idle state line ≡ idle
    → Rests (due_look closes idle) state line
well_look [] true state line idle = idle
well_look [] false state line idle = tt
well_look (port ∷ later) idle state line is = tt

well_close : (due : Due) (closes : List ℕ) (idle : Bool) (port : ℕ) (state : State) (line : Line)
    → Rests (due_after due closes idle (entry.Close port (Ok tt))) state line
well_close (Closing number later) closes idle port state line = well_due later state line
well_close due closes idle port state line = tt

well_event : (due : Due) (closes : List ℕ) (moment : Moment) (state : State) (line : Line)
    → Rests (due_after due closes (is_idle state line) (entry.Now (Ok moment))) state line
well_event Free closes moment state line = well_look closes (is_idle state line) state line refl
well_event (NowFor event) closes moment state line = well_due closes state line
well_event due closes moment state line = tt

well_led : (reading : LoopState) (next : Entry) → comes_next reading next ≡ true
    → IsWell (after_entry reading next)
well_led reading (entry.Bind door path answer) may = cc
well_led reading (entry.Poll wait items (Ok polled.Some)) may = tt
well_led reading (entry.Poll wait items (Ok polled.Over)) may = tt
well_led reading (entry.Poll wait items (Err fault)) may = tt
well_led reading (entry.Accept door (Ok (accepted.Port number))) may = tt
well_led reading (entry.Accept door (Ok accepted.NotNow)) may = tt
well_led reading (entry.Accept door (Err Failed)) may = tt
well_led reading (entry.Accept door (Err Memory)) may = tt
well_led reading (entry.Read port room bytes (Ok (got.Bytes n))) may = tt
well_led reading (entry.Read port room bytes (Ok got.End)) may = tt
well_led reading (entry.Read port room bytes (Ok got.NotNow)) may = tt
well_led reading (entry.Read port room bytes (Err Failed)) may = tt
well_led reading (entry.Read port room bytes (Err Memory)) may = tt
well_led reading (entry.Write port offered (Ok (wrote.Took n))) may = tt
well_led reading (entry.Write port offered (Ok wrote.NotNow)) may = tt
well_led reading (entry.Write port offered (Err Failed)) may = tt
well_led reading (entry.Write port offered (Err Memory)) may = tt
well_led reading (entry.Close port (Ok unit)) may =
    let after = after_entry reading (entry.Close port (Ok unit)) in
    well_close reading.due [] (is_idle after.state after.line) port after.state after.line
well_led reading (entry.Close port (Err want)) may = tt
well_led reading (entry.Start job (Ok ticket)) may = tt
well_led reading (entry.Start job (Err Failed)) may = tt
well_led reading (entry.Start job (Err Memory)) may = tt
well_led reading (entry.Now (Ok moment)) may =
    let after = after_entry reading (entry.Now (Ok moment)) in
    well_event reading.due (closed_by reading.state (events_brought reading.due (entry.Now (Ok moment)))) moment after.state after.line
well_led reading (entry.Now (Err want)) may = tt

well_taken : (from after : LoopState) (next : Entry) → after_if_legal from next ≡ Some after
    → IsWell after
well_taken from after next is =
    let there = leads from after next is in subst IsWell there.left (well_led from next there.comes)

well_by : (found : Option LoopState) (to : LoopState) (later : List Entry)
    → ((after : LoopState) → found ≡ Some after → IsWell after)
    → ((after : LoopState) → IsWell after → after_entries after later ≡ Some to → IsWell to)
    → option_and_then (λ after. after_entries after later) found ≡ Some to → IsWell to
well_by None to later here rest is = cc
well_by (Some after) to later here rest is = rest after (here after refl) is

-- every place of a legal journal is well
well_on : (from to : LoopState) (entries : List Entry) → IsWell from
    → after_entries from entries ≡ Some to → IsWell to
well_on from to [] well is = let same : from ≡ to = cc in subst IsWell same well
well_on from to (next ∷ later) well is =
    well_by (after_if_legal from next) to later (λ after here. well_taken from after next here)
    (λ after here rest. well_on after to later here rest) is

-- a poll may come only where one is due
rests_by : (due : Due) (state : State) (line : Line) → is_polling due ≡ true → Rests due state line
    → IsAtRest (in_state state line due)
rests_by Free state line polls well = cc
rests_by (NowFor event) state line polls well = cc
rests_by (Closing port closes) state line polls well = cc
rests_by Polling state line polls well = record { due = refl; idle = well }
rests_by Nothing state line polls well = cc

rests_taken : (found : Option LoopState) (reading to : LoopState) (wait : Option ℕ) (items : List Ready)
    (answer : Result Polled WorldFault) (later : List Entry)
    → after_if_legal reading (entry.Poll wait items answer) ≡ found → IsWell reading
    → option_and_then (λ after. after_entries after later) found ≡ Some to → IsAtRest reading
rests_taken None reading to wait items answer later is well legal = cc
rests_taken (Some after) reading to wait items answer later is well legal =
    rests_by reading.due reading.state reading.line
    (and_both (is_polling reading.due) (option_eq nat_eq wait (wait_of reading.state))
    (leads reading after (entry.Poll wait items answer) is).comes).0 well

pub rests_after : (state : State) (line : Line) (to : LoopState) (first later : List Entry) (wait : Option ℕ)
    (items : List Ready) (answer : Result Polled WorldFault)
    → after_entries (in_state state line Free) (first ++ entry.Poll wait items answer ∷ later) ≡ Some to
    → RestsAfter (in_state state line Free) first
rests_after state line to first later wait items answer legal =
    let front = has_front (in_state state line Free) to first (entry.Poll wait items answer ∷ later) legal in
    let reached = front.reached in
    record {
      reached = reached;
      front = front.front;
      rest = rests_taken (after_if_legal reached (entry.Poll wait items answer)) reached to wait items answer later refl
          (well_on (in_state state line Free) reached first tt front.front) front.rest;
    }
