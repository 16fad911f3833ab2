-- Events that each come behind a tick of their moment, as a record tells them (ours).
use Rattle.std.specs.Prelude.{ℕ, Bool, false, List, [], ◌∷◌}
use Rattle.lists.specs.Rising.{is_among}
use Rattle.world_ports.specs.declared.Moment.{Moment}
use Rattle.agent_model.specs.Events.{Happening, Timed, Joined, Heard, Ended, Took, Started, StartFailed, Tick}
use Rattle.agent_model.specs.Actions.{Outcome}
use Rattle.agent_model.specs.State.{State}
use Rattle.agent_model.specs.Step.{step}

-- the tick of a moment
abbrev pub tick_of : Moment → Timed
tick_of moment = record { moment = moment; event = Tick }

-- the events, each behind the tick of its moment
abbrev pub with_ticks : List Timed → List Timed
with_ticks [] = []
with_ticks (timed ∷ later) = tick_of timed.moment ∷ timed ∷ with_ticks later

-- what a moment brings by itself
abbrev pub ticked : Moment → State → Outcome
ticked moment state = step state moment Tick

-- the event is at one of these ports
abbrev pub is_at_one : Happening → List ℕ → Bool
is_at_one (Joined door) closed = false
is_at_one (Heard port piece) closed = is_among port closed
is_at_one (Ended port) closed = is_among port closed
is_at_one (Took port count) closed = is_among port closed
is_at_one (Started job ticket) closed = false
is_at_one (StartFailed job) closed = false
is_at_one Tick closed = false

-- an event is passed over where the tick of its moment closed its port
abbrev pub is_passed_over : Moment → Happening → State → Bool
is_passed_over moment event state = is_at_one event (ticked moment state).closes
