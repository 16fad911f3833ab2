-- The events of the lines that a recorder writes of an event (ours).
use Rattle.std.specs.Prelude.{ℕ, suc, List, [], ◌∷◌, length, Ok, Err}
use Rattle.world_ports.specs.declared.JobKind.TheVariants.{Helper}
use Rattle.world_ports.specs.declared.answers.Accepted.TheVariants as accepted
use Rattle.world_ports.specs.declared.answers.Got.TheVariants as got
use Rattle.world_ports.specs.declared.answers.WorldFault.TheVariants as fault
use Rattle.world_ports.specs.declared.answers.Wrote.TheVariants as wrote
use Rattle.world_ports.specs.declared.entry.Entry.TheVariants as entry
use Rattle.schedule_text.specs.declared.step.Step.{Step}
use Rattle.schedule_text.specs.declared.step.Step.TheVariants.{Skip, Format2, At, Join, Hear, End, Hold, Free, Take, Started, Failed}
use Rattle.agent_model.specs.Events.{Happening, Joined, Heard, Ended, Took, Tick, StartFailed, Started as JobStarted}
use Rattle.record_world.specs.Recording.{Left, Recording, left, longest_piece, only}

-- what a recorder keeps and tells of an event, by the entry of the call that tells of it, where this
-- was the number of the last port that joined: a tick is told by its moment alone
abbrev pub lines_of : Happening → ℕ → Recording → Left
lines_of (Joined door) last recording = left (entry.Accept door (Ok (accepted.Port (suc last)))) recording
lines_of (Heard port piece) last recording =
    left (entry.Read port longest_piece piece (Ok (got.Bytes (length piece)))) recording
lines_of (Ended port) last recording = left (entry.Read port longest_piece [] (Ok got.End)) recording
lines_of (Took port count) last recording = left (entry.Write port [] (Ok (wrote.Took count))) recording
lines_of (JobStarted job ticket) last recording =
    left (entry.Start (record { number = job; kind = Helper }) (Ok ticket)) recording
lines_of (StartFailed job) last recording =
    left (entry.Start (record { number = job; kind = Helper }) (Err fault.Failed)) recording
lines_of Tick last recording = only [] recording

-- the event of a step, and these: holding a port tells of none
abbrev pub event_of : Step → List Happening → List Happening
event_of Skip later = later
event_of (At moment) later = later
event_of (Join door) later = Joined door ∷ later
event_of (Hear port bytes) later = Heard port bytes ∷ later
event_of (End port) later = Ended port ∷ later
event_of (Hold port) later = later
event_of (Free port) later = later
event_of (Take port count) later = Took port count ∷ later
event_of (Started job ticket) later = JobStarted job ticket ∷ later
event_of (Failed job) later = StartFailed job ∷ later
event_of Format2 later = later

-- the events of steps, in order
abbrev pub events_of : List Step → List Happening
events_of [] = []
events_of (one ∷ later) = event_of one (events_of later)
