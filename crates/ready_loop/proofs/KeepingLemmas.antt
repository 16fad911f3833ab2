-- What holds of a line and of the agent before calls holds after them.
use Rattle.std.proofs.Common.{◌≡◌, ℕ, ◌≤◌, List, [], ◌∷◌, Option, Some, None, Result, Ok, Err, sym, subst}
use Rattle.std.specs.Prelude.{OnOk}
use Rattle.world_ports.specs.declared.entry.Entry.{Entry}
use Rattle.world_ports.specs.declared.events.Moment.{Moment}
use Rattle.agent_model.specs.Events.{Tick, Timed}
use Rattle.agent_model.specs.Runs.{run}
use Rattle.agent_model.specs.State.{State}
use Rattle.agent_model.specs.Step.{step}
use Rattle.loop_model.specs.Dues.{Free}
use Rattle.loop_model.specs.LegalJournal.{LoopState, after_entries, after_if_legal, events_brought, in_state}
use Rattle.loop_model.specs.Lines.{IsExact, IsOrdered, IsQuiet, Line, after_event}
use Rattle.loop_model.specs.Orderly.{IsOrderly}
use Rattle.loop_model.specs.Queues.{AreApart}
use Rattle.loop_model.proofs.JournalLemmas.{leads}
use Rattle.loop_model.proofs.OwedLemmas.{orderly_after}
use Rattle.loop_model.proofs.QuietLemmas.{holds_kept, ordered-event, ordered_kept}
use Rattle.loop_model.proofs.RoundLemmas.{exact, exact-listed}
use Rattle.ready_loop.specs.Moves.{AdvancesOrStops, served_by}
use Rattle.ready_loop.specs.Turning.{HasGone, IsFit}
use Rattle.ready_loop.specs.declared.outcome.HubFault.{HubFault}
use Rattle.ready_loop.specs.declared.outcome.Turn.{Turn}

-- what holds where memory sufficed, holds
pub on_ok : {T E P : Type 0} (result : Result T E) → P → OnOk result P
on_ok (Ok value) holds = holds
on_ok (Err fault) holds = tt

-- one thing leads to another there
pub then_ok : {T E P Q : Type 0} (result : Result T E) → OnOk result P → (P → Q) → OnOk result Q
then_ok (Ok value) holds leads = leads holds
then_ok (Err fault) holds leads = tt

-- ---- of a line

pub ordered_is : (state : State) (line left : Line) → left ≡ line → IsOrdered state line
    → IsOrdered state left
ordered_is state line left is ordered = subst (λ (l : Line). IsOrdered state l) (sym is) ordered

pub ordered_of : (state : State) (line : Line) → IsExact state line → IsQuiet state line
    → IsOrdered state line
ordered_of state line is quiet = record { listed = exact-listed state line is; quiet = quiet }

pub exact_of : (state : State) (line : Line) → IsOrdered state line → AreApart line.queue
    → IsExact state line
exact_of state line ordered apart = exact state line ordered apart

pub fit_is : (state : State) (line left : Line) → left ≡ line → IsFit state line → IsFit state left
fit_is state line left is fit = subst (IsFit state) (sym is) fit

-- after a look at the clock
pub told-ordered : (state : State) (closes : List ℕ) (line left : Line) → left ≡ after_event state closes None None line
    → IsOrdered state left
told-ordered state closes line left is =
    ordered_is state (after_event state closes None None line) left is (ordered-event state closes None None line)

pub told-fit : (state next : State) (moment : Moment) (closes : List ℕ) (line left : Line)
    → next ≡ (step state moment Tick).state → left ≡ after_event next closes None None line → IsOrderly state
    → IsFit next left
told-fit state next moment closes line left stepped is orderly = record {
  orderly = subst IsOrderly (sym stepped) (orderly_after state moment Tick orderly);
  ordered = told-ordered next closes line left is;
}

-- ---- of the agent

orderly_run : (state : State) (events : List Timed) → IsOrderly state → IsOrderly (run state events)
orderly_run state [] orderly = orderly
orderly_run state (timed ∷ later) orderly =
    orderly_run (step state timed.moment timed.event).state later (orderly_after state timed.moment timed.event orderly)

orderly_taken : (from to : LoopState) (next : Entry) → after_if_legal from next ≡ Some to
    → IsOrderly from.state
    → IsOrderly to.state
orderly_taken from to next is orderly =
    subst (λ (t : LoopState). IsOrderly t.state) (leads from to next is).left
    (orderly_run from.state (events_brought from.due next) orderly)

pub orderly_kept : (from to : LoopState) (entries : List Entry)
    → after_entries from entries ≡ Some to → IsOrderly from.state
    → IsOrderly to.state
orderly_kept = holds_kept (λ (t : LoopState). IsOrderly t.state) orderly_taken

-- ---- of what a turn serves

served_ok : {E : Type 0} (P : Type 0) (result : Result Unit E) → OnOk result P
    → OnOk (served_by result) P
served_ok P (Ok value) holds = holds
served_ok P (Err fault) holds = tt

-- what holds of a call's result holds of the turn's
pub turn_ok : {E : Type 0} (P : Type 0) (result : Result Unit E) (turn : Result Turn HubFault)
    → turn ≡ served_by result
    → OnOk result P → OnOk turn P
turn_ok P result turn is holds =
    subst (λ (r : Result Turn HubFault). OnOk r P) (sym is) (served_ok P result holds)

serves_ok : {E : Type 0} (result : Result Unit E) (from : LoopState) (old new : Option (List Entry)) (state : State)
    (line : Line) → AdvancesOrStops result from old new (in_state state line Free) → IsFit from.state from.line
    → OnOk result (IsFit state line)
serves_ok (Ok value) from old new state line serves fit = record {
  orderly = orderly_kept from (in_state state line Free) serves.by.calls.added serves.by.calls.legal fit.orderly;
  ordered = ordered_kept from (in_state state line Free) serves.by.calls.added serves.by.calls.legal fit.ordered;
}
serves_ok (Err fault) from old new state line serves fit = tt

-- what is served leaves agent and line in order
pub fit_served : {E : Type 0} (result : Result Unit E) (turn : Result Turn HubFault) (from : LoopState)
    (old new : Option (List Entry)) (state : State) (line : Line) → turn ≡ served_by result
    → AdvancesOrStops result from old new (in_state state line Free) → IsFit from.state from.line
    → OnOk turn (IsFit state line)
fit_served result turn from old new state line is serves fit =
    turn_ok (IsFit state line) result turn is (serves_ok result from old new state line serves fit)

-- how the world went on in a call is how it went on in the turn
pub gone_served : {E : Type 0} (result : Result Unit E) (turn : Result Turn HubFault) (state : State)
    (last second faults after : ℕ) (goes_on : Type 0) → turn ≡ served_by result
    → HasGone result state last second faults after goes_on → HasGone turn state last second faults after goes_on
gone_served result turn state last second faults after goes_on is gone = record {
  ports = turn_ok (last ≡ state.last_port) result turn is gone.ports;
  second = turn_ok (state.moment.mono ≤ second) result turn is gone.second;
  later = gone.later;
  led = gone.led;
}
