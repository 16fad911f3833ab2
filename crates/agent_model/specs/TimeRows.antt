-- Literal rows of what may be waited for, to the second: 60 for the helper's answer, 300 for the
-- user's (ours).
use Rattle.std.specs.Prelude.{ℕ, List, ◌∷◌, None, Some}
use Rattle.world_ports.specs.declared.Door.TheVariants.{Clients, Children}
use Rattle.agent_model.specs.Actions.{Outcome}
use Rattle.agent_model.specs.ChildRows.{hello, ticket}
use Rattle.agent_model.specs.Events.{Happening, Heard, Joined, Started, Tick, Timed, Took}
use Rattle.agent_model.specs.Rows.{add, add_asking, moment_at, sign}
use Rattle.agent_model.specs.Runs.{run}
use Rattle.agent_model.specs.State.{Settings, State, first_state, no_settings}
use Rattle.agent_model.specs.Step.{step}

-- ---- events at their seconds

-- both limits, and one alone
abbrev pub limited : Settings
limited = record { life = None; limits = record { ask = Some 60; confirmation = Some 300 } }

-- the helper's limit alone
abbrev pub asks_limited : Settings
asks_limited = record { life = None; limits = record { ask = Some 60; confirmation = None } }

-- the user's limit alone
abbrev pub consents_limited : Settings
consents_limited = record { life = None; limits = record { ask = None; confirmation = Some 300 } }

-- an event at this second of both clocks
abbrev pub on : ℕ → Happening → Timed
on second event = record { moment = moment_at second; event = event }

-- nothing but the time, at this second
abbrev pub ticks : ℕ → Timed
ticks second = on second Tick

-- what an event at this second brings
abbrev pub brings : State → ℕ → Happening → Outcome
brings state second event = step state (moment_at second) event

-- ---- a signature that waits for the helper

-- the client of port 1 added the key of tag 17 at once
abbrev pub holding_by : Settings → List Timed → State
holding_by settings events = run (first_state settings) (on 0 (Joined Clients)
    ∷ on 0 (Heard 1 (add 17)) ∷ on 0 (Took 1 5) ∷ events)

-- with both limits, and with none
abbrev pub waiting : List Timed → State
waiting events = holding_by limited (on 0 (Heard 1 (sign 17)) ∷ events)

-- the client waits for the helper, and nothing limits it
abbrev pub waiting_for_ever : List Timed → State
waiting_for_ever events = holding_by no_settings (on 0 (Heard 1 (sign 17)) ∷ events)

-- the helper came to port 2 at second 20
abbrev pub helped : List Timed → State
helped events = waiting (on 0 (Started 1 (ticket 9)) ∷ on 20 (Joined Children)
    ∷ on 20 (Heard 2 (hello 1 9)) ∷ events)

-- a second client asked at second 30, and the helper came to port 3
abbrev pub two_wait : List Timed → State
two_wait events = waiting (on 0 (Joined Clients) ∷ on 30 (Heard 2 (sign 17))
    ∷ on 30 (Started 1 (ticket 9)) ∷ on 30 (Joined Children) ∷ on 30 (Heard 3 (hello 1 9)) ∷ events)

-- ---- a signature that waits for the user

-- the client of port 1 added the key of tag 17, which asks the user, and asked for a signature
abbrev pub asking_by : Settings → List Timed → State
asking_by settings events = run (first_state settings) (on 0 (Joined Clients)
    ∷ on 0 (Heard 1 (add_asking 17)) ∷ on 0 (Took 1 5) ∷ on 0 (Heard 1 (sign 17)) ∷ events)

-- with both limits, and with none
abbrev pub asking : List Timed → State
asking events = asking_by limited events

-- the child process of port 2 asks the user for it
abbrev pub asked_by : Settings → List Timed → State
asked_by settings events = asking_by settings (on 0 (Started 1 (ticket 9)) ∷ on 0 (Joined Children)
    ∷ on 0 (Heard 2 (hello 1 9)) ∷ events)

-- the child process of port 2 asks the user, with both limits
abbrev pub asked : List Timed → State
asked events = asked_by limited events

-- ---- both

-- the clients of ports 1 and 2 wait for the user from the first second on, asked at ports 5 and 6,
-- and those of ports 3 and 4 for the helper at port 7 from second 240 on
abbrev pub all_wait : List Timed → State
all_wait events = run (first_state limited) (on 0 (Joined Clients) ∷ on 0 (Joined Clients)
    ∷ on 0 (Joined Clients) ∷ on 0 (Joined Clients) ∷ on 0 (Heard 1 (add_asking 17))
    ∷ on 0 (Took 1 5) ∷ on 0 (Heard 1 (add 18)) ∷ on 0 (Took 1 5) ∷ on 0 (Heard 1 (sign 17))
    ∷ on 0 (Heard 2 (sign 17)) ∷ on 0 (Started 1 (ticket 9)) ∷ on 0 (Joined Children)
    ∷ on 0 (Heard 5 (hello 1 9)) ∷ on 0 (Started 2 (ticket 7)) ∷ on 0 (Joined Children)
    ∷ on 0 (Heard 6 (hello 2 7)) ∷ on 240 (Heard 3 (sign 18)) ∷ on 240 (Heard 4 (sign 18))
    ∷ on 240 (Started 3 (ticket 8)) ∷ on 240 (Joined Children) ∷ on 240 (Heard 7 (hello 3 8))
    ∷ events)
