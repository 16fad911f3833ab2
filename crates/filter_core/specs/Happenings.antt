-- The events of the program as those of the definition.
use Rattle.filter_core.specs.declared.event.FilterEvent.{FilterEvent}
use Rattle.filter_core.specs.declared.event.FilterEvent.TheVariants as event
use Rattle.filter_model.specs.Filters.{Connected, Ended, Happening, Heard, Joined, Lost, Took}

-- an event, its bytes as a list
abbrev pub happening : FilterEvent → Happening
happening event.Joined = Joined
happening (event.Connected pair) = Connected pair
happening (event.Heard pair side piece) = Heard pair side piece.now
happening (event.Took pair side count) = Took pair side count
happening (event.Lost pair) = Lost pair
happening (event.Ended pair) = Ended pair
