-- Which journals of a world are legal for the abstract agent, each thing being served in its turn (ours): a fold over
-- their entries. Read from the end.
use Rattle.std.specs.Prelude.{ℕ, Bool, true, false, List, [], ◌∷◌, length, Option, Some, None, Result, Ok, Err, ◌==◌, ◌&&◌, nat_eq, nat_le, nat_lt, not, option_and_then}
use Rattle.std.specs.Option.{option_eq}
use Rattle.std.specs.Str.{bytes_eq}
use Rattle.world_ports.specs.declared.answers.Got.{Got}
use Rattle.world_ports.specs.declared.answers.Got.TheVariants as got
use Rattle.world_ports.specs.declared.answers.WorldFault.{WorldFault}
use Rattle.world_ports.specs.declared.answers.Wrote.{Wrote}
use Rattle.world_ports.specs.declared.answers.Wrote.TheVariants as wrote
use Rattle.world_ports.specs.declared.events.Job.{Job}
use Rattle.world_ports.specs.declared.events.JobKind.{JobKind}
use Rattle.world_ports.specs.declared.events.JobKind.TheVariants as kinds
use Rattle.world_ports.specs.declared.entry.Entry.{Entry}
use Rattle.world_ports.specs.declared.entry.Entry.TheVariants as entry
use Rattle.agent_model.specs.Events.{Tick, Timed}
use Rattle.agent_model.specs.Runs.{run}
use Rattle.agent_model.specs.State.{State, owed_of, starts}
use Rattle.agent_model.specs.Step.{step}
use Rattle.loop_model.specs.Calls.{Move, moved}
use Rattle.loop_model.specs.Dues.{Due, Free, NowFor, due_after, is_closing, is_free, is_polling, reads_clock, wait_of}
use Rattle.loop_model.specs.Lines.{Line, is_idle}
use Rattle.loop_model.specs.Queues.{is_next}
use Rattle.loop_model.specs.Servable.{has_job}
use Rattle.loop_model.specs.declared.thing.Thing.TheVariants.{Accept, Read, Write}
use Rattle.world_ports.specs.Worlds.{read_room}

-- how a journal was read so far: the agent's state, what is ready, and what has to come next
pub record LoopState : Type 0 where
  pub state : State
  pub line : Line
  pub due : Due

-- a reading with this state, this line and this due call
abbrev pub in_state : State → Line → Due → LoopState
in_state state line due = record { state = state; line = line; due = due }

-- ---- which entries may come

-- both are of one kind
abbrev pub same_kind : JobKind → JobKind → Bool
same_kind kinds.Helper kinds.Helper = true
same_kind kinds.Confirm kinds.Confirm = true
same_kind kind other = false

-- the job is the first of those that wait to be started
abbrev pub is_first_job : Job → List Job → Bool
is_first_job job [] = false
is_first_job job (first ∷ later) = (job.number == first.number) && same_kind job.kind first.kind

-- what was read is as many bytes as the answer says, one at least, and no more than the room
abbrev pub is_read : ℕ → List ℕ → Result Got WorldFault → Bool
is_read room bytes (Ok (got.Bytes n)) = (length bytes == n) && (nat_lt 0 n && nat_le n room)
is_read room bytes other = true

-- what was taken is one byte at least, and no more than was offered
abbrev pub is_taken : ℕ → Result Wrote WorldFault → Bool
is_taken offered (Ok (wrote.Took n)) = nat_lt 0 n && nat_le n offered
is_taken offered other = true

-- a thing may be served: any call may come, and no job waits to be started
abbrev pub may_serve : LoopState → Bool
may_serve reading = is_free reading.due && not (has_job (starts reading.state))

-- the first job that waits, or else the first thing of the queue that can be served, or what has to come
abbrev pub comes_next : LoopState → Entry → Bool
comes_next reading (entry.Bind door path answer) = false
comes_next reading (entry.Poll wait items answer) =
    is_polling reading.due && option_eq nat_eq wait (wait_of reading.state)
comes_next reading (entry.Accept door answer) =
    may_serve reading && is_next reading.state reading.line.queue (Accept door)
comes_next reading (entry.Read port room bytes answer) =
    may_serve reading
    && (is_next reading.state reading.line.queue (Read port) && ((room == read_room) && is_read room bytes answer))
comes_next reading (entry.Write port offered answer) =
    may_serve reading
    && (is_next reading.state reading.line.queue (Write port)
    && (bytes_eq offered (owed_of port reading.state) && is_taken (length offered) answer))
comes_next reading (entry.Close port answer) = is_closing port reading.due
comes_next reading (entry.Start job answer) = is_free reading.due && is_first_job job (starts reading.state)
comes_next reading (entry.Now answer) = reads_clock reading.due (is_idle reading.state reading.line)

-- ---- how it reads then

-- the event that an entry brings, where this had to come: one that was due, or a tick
abbrev pub events_brought : Due → Entry → List Timed
events_brought due (entry.Now (Err want)) = []
events_brought Free (entry.Now (Ok moment)) = record { moment = moment; event = Tick } ∷ []
events_brought (NowFor event) (entry.Now (Ok moment)) = record { moment = moment; event = event } ∷ []
events_brought due other = []

-- the ports that it closed
abbrev pub closed_by : State → List Timed → List ℕ
closed_by state [] = []
closed_by state (timed ∷ later) = (step state timed.moment timed.event).closes

-- how it reads after this entry, whose events lead to a state, and close ports
abbrev pub after_entry : LoopState → Entry → LoopState
after_entry reading next =
    let events = events_brought reading.due next in
    let closes = closed_by reading.state events in
    let state = run reading.state events in
    let move : Move = record { state = reading.state; due = reading.due; left = state; closes = closes } in
    let line = moved move next reading.line in
    in_state state line (due_after reading.due closes (is_idle state line) next)

-- how it reads after this entry, where a test says that the entry may come
abbrev pub after_if : Bool → LoopState → Entry → Option LoopState
after_if true reading next = Some (after_entry reading next)
after_if false reading next = None

-- how it reads after this entry, where that may come
abbrev pub after_if_legal : LoopState → Entry → Option LoopState
after_if_legal reading next = after_if (comes_next reading next) reading next

-- how it reads after these entries, where each may come behind those before it
abbrev pub after_entries : LoopState → List Entry → Option LoopState
after_entries reading [] = Some reading
after_entries reading (next ∷ later) = option_and_then (λ after. after_entries after later) (after_if_legal reading next)
