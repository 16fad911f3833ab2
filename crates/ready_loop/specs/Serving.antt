-- A whole run of the loop (ours): the clients' listener is bound, and then the calls come as LegalJournal.antt of
-- loop_model says. Child processes are started with their connections, so nothing is bound for them. Read from the end.
use Rattle.std.specs.Prelude.{◌≡◌, ℕ, Bool, true, List, [], ◌∷◌, ◌++◌, Option, Some, None, Result, Ok, Err, ◌==◌, ◌&&◌, not, if◌then◌else◌, option_and_then, option_map}
use Rattle.std.specs.Str.{bytes_eq}
use Rattle.world_ports.specs.Journal.{Grows}
use Rattle.world_ports.specs.declared.answers.Polled.{Polled}
use Rattle.world_ports.specs.declared.answers.Polled.TheVariants as polled
use Rattle.world_ports.specs.declared.answers.Ready.{Ready}
use Rattle.world_ports.specs.declared.answers.WorldFault.{WorldFault}
use Rattle.world_ports.specs.declared.answers.WorldFault.TheVariants as fault
use Rattle.world_ports.specs.declared.entry.Entry.{Entry}
use Rattle.world_ports.specs.declared.entry.Entry.TheVariants as entry
use Rattle.world_ports.specs.declared.events.Door.TheVariants.{Clients}
use Rattle.agent_model.specs.State.{State, client_count}
use Rattle.loop_model.specs.Dues.{Free}
use Rattle.loop_model.specs.Fitting.{AreTyped}
use Rattle.loop_model.specs.Lines.{empty_line, is_idle}
use Rattle.loop_model.specs.LegalJournal.{LoopState, after_if_legal, in_state}
use Rattle.ready_loop.specs.Moves.{is_poll}
use Rattle.ready_loop.specs.declared.outcome.ServeEnd.{ServeEnd}
use Rattle.ready_loop.specs.declared.outcome.ServeEnd.TheVariants.{Over, Idle, BindFault, PollFault, Memory}

-- what the loop is to do: where clients connect, whether it ends once a client has come and none is left, and the
-- agent that it begins with
pub record Setting : Type 0 where
  pub path : List ℕ
  pub until_idle : Bool
  pub state : State

-- how far a run is: the listener isn't bound, or the loop runs; or it couldn't be bound
pub data Stage : Type 0 where
  Unbound : Stage
  Running : (reading : LoopState) → Stage
  Refused : Stage

-- the stage in which the loop begins
abbrev pub begun : Setting → Stage
begun setting = Running (in_state setting.state empty_line Free)

-- ---- the listener

-- the stage after a listener was to be bound, by whether it was
abbrev pub after_bind : {E : Type 0} → Result Unit E → Stage → Stage
after_bind (Ok unit) next = next
after_bind (Err fault) next = Refused

-- the clients' listener is to be bound, at this path
abbrev pub bound : List ℕ → Stage → Entry → Option Stage
bound path next (entry.Bind Clients at answer) = if bytes_eq at path then Some (after_bind answer next) else None
bound path next other = None

-- ---- turns

-- a client has connected, and none is open
abbrev pub is_deserted : LoopState → Bool
is_deserted reading = reading.line.joined && (client_count reading.state.ports == 0)

-- a loop that is to end when it is idle doesn't poll there
abbrev pub may_come : Bool → LoopState → Entry → Bool
may_come until_idle reading next = not (is_poll next && (until_idle && is_deserted reading))

-- ---- a run

-- the entry may come, and this is how far the run is then
abbrev pub gone_on : Setting → Stage → Entry → Option Stage
gone_on setting Unbound next = bound setting.path (begun setting) next
gone_on setting (Running reading) next =
    if may_come setting.until_idle reading next then option_map Running (after_if_legal reading next) else None
gone_on setting Refused next = None

-- the entries may come one after another
abbrev pub ran : Setting → Stage → List Entry → Option Stage
ran setting stage [] = Some stage
ran setting stage (next ∷ later) = option_and_then (λ after. ran setting after later) (gone_on setting stage next)

-- ---- how it ends

-- the calls that were added may come from one stage on, lead to the other, and have the numbers of their types
pub record Runs (setting : Setting) (from : Stage) (old new : Option (List Entry)) (to : Stage) : Type 0 where
  pub added : List Entry
  pub told : Grows old new added
  pub legal : ran setting from added ≡ Some to
  pub typed : AreTyped added

-- the same of calls the last of which is this one
pub record RunsUpTo (setting : Setting) (from : Stage) (old new : Option (List Entry)) (last : Entry) : Type 0 where
  pub to : Stage
  pub before : List Entry
  pub told : Grows old new (before ++ last ∷ [])
  pub legal : ran setting from (before ++ last ∷ []) ≡ Some to
  pub typed : AreTyped (before ++ last ∷ [])

-- a poll was the last call, with this answer
pub record RunsUpToPoll (setting : Setting) (from : Stage) (old new : Option (List Entry)) (answer : Result Polled WorldFault) : Type 0 where
  pub wait : Option ℕ
  pub items : List Ready
  pub calls : RunsUpTo setting from old new (entry.Poll wait items answer)

-- the listener couldn't be bound
abbrev pub RunsUpToBind : Setting → Stage → Option (List Entry) → Option (List Entry) → Type 0
RunsUpToBind setting from old new = RunsUpTo setting from old new (entry.Bind Clients setting.path (Err fault.Failed))

-- it was to end so: a client has connected, none is open, and nothing can be served
pub record RunsUntilIdle (setting : Setting) (from : Stage) (old new : Option (List Entry)) : Type 0 where
  pub reading : LoopState
  pub calls : Runs setting from old new (Running reading)
  pub asked : setting.until_idle ≡ true
  pub deserted : is_deserted reading ≡ true
  pub idle : is_idle reading.state reading.line ≡ true

-- memory ran out: the calls up to there may come
pub record RunsOut (setting : Setting) (from : Stage) (old new : Option (List Entry)) : Type 0 where
  pub to : Stage
  pub calls : Runs setting from old new to

-- what the end of the loop says of the calls that it made
abbrev pub Serves : ServeEnd → Setting → Stage → Option (List Entry) → Option (List Entry) → Type 0
-- the world told that nothing will become ready any more
Serves Over setting from old new = RunsUpToPoll setting from old new (Ok polled.Over)
Serves Idle setting from old new = RunsUntilIdle setting from old new
Serves BindFault setting from old new = RunsUpToBind setting from old new
Serves PollFault setting from old new = RunsUpToPoll setting from old new (Err fault.Failed)
Serves Memory setting from old new = RunsOut setting from old new

-- what the calls are that bind the listener, by whether it was bound
abbrev pub Opens : Result Unit WorldFault → Setting → Option (List Entry) → Option (List Entry) → Type 0
Opens (Ok unit) setting old new = Runs setting Unbound old new (begun setting)
Opens (Err fault.Failed) setting old new = RunsUpToBind setting Unbound old new
Opens (Err fault.Memory) setting old new = RunsOut setting Unbound old new
