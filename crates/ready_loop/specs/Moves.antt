-- What the calls of a turn add to a journal (ours).
use Rattle.std.specs.Prelude.{◌≡◌, ◌⊎◌, ℕ, ◌<◌, Bool, true, false, List, [], ◌∷◌, ◌++◌, Option, Some, Result, Ok, Err, length}
use Rattle.std.specs.List.{list_any}
use Rattle.world_ports.specs.Journal.{Grows}
use Rattle.world_ports.specs.declared.answers.Polled.{Polled}
use Rattle.world_ports.specs.declared.answers.Polled.TheVariants as polled
use Rattle.world_ports.specs.declared.answers.Ready.{Ready}
use Rattle.world_ports.specs.declared.answers.WorldFault.{WorldFault}
use Rattle.world_ports.specs.declared.answers.WorldFault.TheVariants.{Failed}
use Rattle.world_ports.specs.declared.events.Moment.{Moment}
use Rattle.world_ports.specs.declared.entry.Entry.{Entry}
use Rattle.world_ports.specs.declared.entry.Entry.TheVariants as entry
use Rattle.agent_model.specs.State.{State}
use Rattle.loop_model.specs.Dues.{Free}
use Rattle.loop_model.specs.Fitting.{AreTyped}
use Rattle.loop_model.specs.LegalJournal.{LoopState, after_entries, in_state}
use Rattle.loop_model.specs.Lines.{Line}
use Rattle.ready_loop.specs.declared.outcome.Turn.{Turn}
use Rattle.ready_loop.specs.declared.outcome.Turn.TheVariants as turns
use Rattle.ready_loop.specs.declared.outcome.HubFault.{HubFault}
use Rattle.ready_loop.specs.declared.outcome.HubFault.TheVariants as faults

-- the call is a poll
abbrev pub is_poll : Entry → Bool
is_poll (entry.Poll wait items answer) = true
is_poll other = false

-- the calls that were added may come from the first reading on, lead to the second, have the numbers of their types, and
-- none of them is a poll
pub record Continues (from : LoopState) (old new : Option (List Entry)) (to : LoopState) : Type 0 where
  pub added : List Entry
  pub told : Grows old new added
  pub legal : after_entries from added ≡ Some to
  pub typed : AreTyped added
  pub quiet : list_any is_poll added ≡ false

-- the calls that were added, one at least, may come from the first reading on, lead to the second, and none is a poll
pub record Advances (from : LoopState) (old new : Option (List Entry)) (to : LoopState) : Type 0 where
  pub calls : Continues from old new to
  pub some : 0 < length calls.added

-- the calls that were added may come from a reading on, and none of them is a poll
pub record Stops (from : LoopState) (old new : Option (List Entry)) : Type 0 where
  pub to : LoopState
  pub calls : Continues from old new to

-- behind the calls `before` a poll with this answer was added, these lead from the first reading to the second, and have
-- the numbers of their types
pub record AddsPoll (before : List Entry) (from : LoopState) (old new : Option (List Entry)) (answer : Result Polled WorldFault) (to : LoopState) : Type 0 where
  pub wait : Option ℕ
  pub items : List Ready
  pub told : Grows old new (before ++ entry.Poll wait items answer ∷ [])
  pub legal : after_entries from (before ++ entry.Poll wait items answer ∷ []) ≡ Some to
  pub typed : AreTyped (before ++ entry.Poll wait items answer ∷ [])

-- behind the calls `before` a poll with this answer was added, which is the last call that is read
pub record AddsLastPoll (before : List Entry) (from : LoopState) (old new : Option (List Entry)) (answer : Result Polled WorldFault) : Type 0 where
  pub to : LoopState
  pub waits : AddsPoll before from old new answer to

-- by the result of a call that may do nothing: where memory ran out, the calls stop at some reading
abbrev pub ContinuesBy : {T E : Type 0} → Result T E → LoopState → Option (List Entry) → Option (List Entry) → LoopState → Type 0
ContinuesBy (Ok _) from old new to = Continues from old new to
ContinuesBy (Err _) from old new to = Stops from old new

-- the calls that were added lead from the first reading to the second, or stop where memory ran out
pub record ContinuesOrStops {T E : Type 0} (result : Result T E) (from : LoopState) (old new : Option (List Entry)) (to : LoopState) : Type 0 where
  pub by : ContinuesBy result from old new to

-- by the result of a call that serves something: where memory ran out, the calls stop at some reading
abbrev pub AdvancesBy : {T E : Type 0} → Result T E → LoopState → Option (List Entry) → Option (List Entry) → LoopState → Type 0
AdvancesBy (Ok _) from old new to = Advances from old new to
AdvancesBy (Err _) from old new to = Stops from old new

-- one call at least leads from the first reading to the second, or the calls stop where memory ran out
pub record AdvancesOrStops {T E : Type 0} (result : Result T E) (from : LoopState) (old new : Option (List Entry)) (to : LoopState) : Type 0 where
  pub by : AdvancesBy result from old new to

-- behind the calls `before` a poll was added, with some answer, which is the last call that is read
pub record AddsAnyPoll (before : List Entry) (from : LoopState) (old new : Option (List Entry)) : Type 0 where
  pub answer : Result Polled WorldFault
  pub last : AddsLastPoll before from old new answer

-- the poll that was added behind some calls, by how a turn ended with it
abbrev pub Polls : List Entry → Result Turn HubFault → LoopState → Option (List Entry) → Option (List Entry) → State → Line → Type 0
Polls before (Ok turns.Served) from old new state line = ⊥
Polls before (Ok turns.Polled) from old new state line = AddsPoll before from old new (Ok polled.Some) (in_state state line Free)
Polls before (Ok turns.Over) from old new state line = AddsLastPoll before from old new (Ok polled.Over)
Polls before (Err faults.Poll) from old new state line = AddsLastPoll before from old new (Err Failed)
Polls before (Err faults.Memory) from old new state line = AddsAnyPoll before from old new

-- the poll that was added alone, by how a turn ended with it; where memory ran out it may be missing
abbrev pub PollsOrStops : Result Turn HubFault → LoopState → Option (List Entry) → Option (List Entry) → State → Line → Type 0
PollsOrStops (Ok turn) from old new state line = Polls [] (Ok turn) from old new state line
PollsOrStops (Err faults.Poll) from old new state line = Polls [] (Err faults.Poll) from old new state line
PollsOrStops (Err faults.Memory) from old new state line =
    Stops from old new ⊎ Polls [] (Err faults.Memory) from old new state line

-- the poll that was added behind a look at the clock, by how a turn ended with it
pub record LooksAndPolls (result : Result Turn HubFault) (from : LoopState) (old new : Option (List Entry)) (state : State) (line : Line) : Type 0 where
  pub moment : Moment
  pub polls : Polls (entry.Now (Ok moment) ∷ []) result from old new state line

-- by how a turn ended: a poll comes behind a look alone
abbrev pub Turns : Result Turn HubFault → LoopState → Option (List Entry) → Option (List Entry) → State → Line → Type 0
Turns (Ok turns.Served) from old new state line = Advances from old new (in_state state line Free)
Turns (Ok turns.Polled) from old new state line = LooksAndPolls (Ok turns.Polled) from old new state line
Turns (Ok turns.Over) from old new state line = LooksAndPolls (Ok turns.Over) from old new state line
Turns (Err faults.Poll) from old new state line = LooksAndPolls (Err faults.Poll) from old new state line
Turns (Err faults.Memory) from old new state line = Stops from old new ⊎ LooksAndPolls (Err faults.Memory) from old new state line

-- a turn that served something, where memory sufficed
abbrev pub served_by : {E : Type 0} → Result Unit E → Result Turn HubFault
served_by (Ok unit) = Ok turns.Served
served_by (Err want) = Err faults.Memory
