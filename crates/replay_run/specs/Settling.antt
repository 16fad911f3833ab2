-- Settling: after a line every port that isn't held takes what it is owed (ours: docs/PROTOCOL.md, "Output").
use Rattle.std.specs.Prelude.{ℕ, zero, suc, List, [], ◌∷◌, length, Option, None, Some}
use Rattle.world_ports.specs.declared.Moment.{Moment}
use Rattle.agent_model.specs.Budget.{budget}
use Rattle.agent_model.specs.Events.{Happening, Timed, Took}
use Rattle.agent_model.specs.Runs.{run}
use Rattle.agent_model.specs.State.{State, owed_of}
use Rattle.agent_model.specs.Step.{step}
use Rattle.replay_run.specs.Holding.{next_unheld}

-- an event at a moment
abbrev pub at_moment : Moment → Happening → Timed
at_moment moment event = record { moment = moment; event = event }

-- the state that an event at a moment leaves
abbrev pub after_event : Moment → State → Happening → State
after_event moment state event = (step state moment event).state

-- and the ports that it closes, rising
abbrev pub closed_at : Moment → State → Happening → List ℕ
closed_at moment state event = (step state moment event).closes

-- the state after a port took all that it was owed
abbrev pub delivered : Moment → ℕ → State → State
delivered moment port state = after_event moment state (Took port (length (owed_of port state)))

-- the open port of the least number that isn't held and is owed bytes
abbrev pub next_to_take : List ℕ → State → Option ℕ
next_to_take held state = next_unheld state.under_way 0 held state.ports

-- the next port takes all that it is owed, where there is one, and then those that follow later
abbrev pub takings_from : Moment → (State → List Timed) → State → Option ℕ → List Timed
takings_from moment later state None = []
takings_from moment later state (Some port) =
    at_moment moment (Took port (length (owed_of port state))) ∷ later (delivered moment port state)

-- at most so many takings, each of the open port of the least number that isn't held and is owed bytes
abbrev pub takings_by : Moment → List ℕ → ℕ → State → List Timed
takings_by moment held zero state = []
takings_by moment held (suc fuel) state =
    takings_from moment (takings_by moment held fuel) state (next_to_take held state)

-- takings until no port that isn't held is owed bytes: each one lowers the budget
unfoldable pub takings : Moment → List ℕ → State → List Timed
takings moment held state = takings_by moment held (budget state) state

-- the state that a settling leaves
abbrev pub settled : Moment → List ℕ → State → State
settled moment held state = run state (takings moment held state)

-- an event at a moment, and the settling after it
abbrev pub comes : Moment → List ℕ → State → Happening → List Timed
comes moment held state event =
    at_moment moment event ∷ takings moment held (after_event moment state event)
