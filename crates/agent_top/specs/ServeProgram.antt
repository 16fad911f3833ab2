-- What the end of `serve` says of the calls that it made on the world (ours): `ServesExactly`, a line a status. From here
-- on down, each file read from its end:
--   ready_loop, specs/Serving.antt: a whole run of the loop, and how it may end
--   loop_model, specs/LegalJournal.antt: which calls may come, by what the abstract agent owes and wants, and in which
--   order things are served
--   agent_model, specs/Step.antt: one step of the abstract agent
--   agent_model, specs/Dispatch.antt: the table of requests
use Rattle.std.specs.Prelude.{◌≡◌, Bool, true, false, List, Option, ◌⊎◌, Ok, Err, if◌then◌else◌}
use Rattle.world_ports.specs.declared.entry.Entry.{Entry}
use Rattle.world_ports.specs.declared.answers.Polled.TheVariants as polled
use Rattle.world_ports.specs.declared.answers.WorldFault.TheVariants as fault
use Rattle.agent_top.specs.declared.status.Status.{Status}
use Rattle.agent_top.specs.declared.status.Status.TheVariants as status
use Rattle.ready_loop.specs.Serving.{Setting, Unbound, RunsOut, RunsUntilIdle, RunsUpToBind, RunsUpToPoll}
use Rattle.ready_loop.specs.declared.outcome.ServeEnd.{ServeEnd}
use Rattle.ready_loop.specs.declared.outcome.ServeEnd.TheVariants as ends

-- the status of a loop that ended so
abbrev pub status_of_serving : ServeEnd → Status
status_of_serving ends.Over = status.Done
status_of_serving ends.Idle = status.Done
status_of_serving ends.BindFault = status.BindFault
status_of_serving ends.PollFault = status.PollFault
status_of_serving ends.Memory = status.Memory

-- the status of a recorded loop with this end, by whether the calls ended with the record, and whether that broke
abbrev pub status_of_recorded : Bool → Bool → ServeEnd → Status
status_of_recorded true failed end = status.RecordFault
status_of_recorded false failed ends.Over = if failed then status.WriteFault else status.Done
status_of_recorded false failed ends.Idle = if failed then status.WriteFault else status.Done
status_of_recorded false failed ends.BindFault = status.BindFault
status_of_recorded false failed ends.PollFault = status.PollFault
status_of_recorded false failed ends.Memory = status.Memory

-- the calls are those that the abstract agent's loop may make, up to the end that the status names; they are recorded
-- where the words say so
abbrev pub ServesExactly : Bool → Setting → Status → Option (List Entry) → Option (List Entry) → Type 0
-- the world told that nothing will become ready any more, or the loop was to end as soon as it is idle, and is
ServesExactly is_recorded setting status.Done old new =
    RunsUpToPoll setting Unbound old new (Ok polled.Over) ⊎ RunsUntilIdle setting Unbound old new
-- the last call was a binding that failed
ServesExactly is_recorded setting status.BindFault old new = RunsUpToBind setting Unbound old new
-- the last call was a poll that failed
ServesExactly is_recorded setting status.PollFault old new = RunsUpToPoll setting Unbound old new (Err fault.Failed)
-- memory ran out after these calls
ServesExactly is_recorded setting status.Memory old new = RunsOut setting Unbound old new
-- the loop ended well, but the record couldn't be written to its end
ServesExactly is_recorded setting status.WriteFault old new =
    (is_recorded ≡ true) × (RunsUpToPoll setting Unbound old new (Ok polled.Over) ⊎ RunsUntilIdle setting Unbound old new)
-- the record ended, and the loop with it, after these calls
ServesExactly is_recorded setting status.RecordFault old new = (is_recorded ≡ true) × RunsOut setting Unbound old new
-- the words were those of `serve`, there is no schedule, and nothing is read
ServesExactly is_recorded setting other old new = ⊥
