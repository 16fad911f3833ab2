-- The events of the program as those of the abstract agent.
use Rattle.agent_core.specs.declared.event.Event.{Event}
use Rattle.agent_core.specs.declared.event.Event.TheVariants as event
use Rattle.agent_model.specs.Events.{Happening, Joined, Heard, Ended, Took, Started, StartFailed, Tick}

-- an event, its bytes as a list
abbrev pub happening : Event → Happening
happening (event.Joined door) = Joined door
happening (event.Heard port piece) = Heard port piece.now
happening (event.Ended port) = Ended port
happening (event.Took port count) = Took port count
happening (event.Started job ticket) = Started job ticket
happening (event.StartFailed job) = StartFailed job
happening event.Tick = Tick
