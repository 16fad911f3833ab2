-- Literal runs, and the runs of their records (ours).
use Rattle.std.specs.Prelude.{ℕ, List, [], ◌∷◌, ◌++◌, codes, map, take, drop}
use Rattle.world_ports.specs.declared.Door.TheVariants.{Clients, Children}
use Rattle.agent_model.specs.ChildRows.{hello, ticket}
use Rattle.agent_model.specs.Events.{Happening, Timed, Ended, Heard, Joined, Started, Took}
use Rattle.agent_model.specs.Rows.{add, list, lock, sign, unlock}
use Rattle.agent_model.specs.Runs.{run}
use Rattle.agent_model.specs.State.{Settings, State, first_state, numbers, owed_of}
use Rattle.agent_model.specs.TimeRows.{on}
use Rattle.replay_laws.specs.Lines.{events_of}
use Rattle.replay_laws.specs.Replaying.{Replay, first_replay, replayed, told_of}

-- the run of the record of these events
abbrev pub replayed_all : Replay → List Timed → Replay
replayed_all replay [] = replay
replayed_all replay (timed ∷ later) = replayed_all (replayed timed replay) later

-- the events of the lines of each event
abbrev pub told_from : Replay → List Timed → List (List Happening)
told_from replay [] = []
told_from replay (timed ∷ later) = events_of (told_of timed replay).steps ∷ told_from (replayed timed replay) later

-- the events of the lines of each event, from the first state on
abbrev pub told : Settings → List Timed → List (List Happening)
told settings events = told_from (first_replay settings) events

-- the open ports, and what the client of port 1 is owed
abbrev pub sight : State → List (List ℕ)
sight state = numbers state.ports ∷ owed_of 1 state ∷ []

-- after the events, and after those of their record
abbrev pub seen : Settings → List Timed → List (List ℕ)
seen settings events = sight (run (first_state settings) events)

-- the open ports and what client 1 is owed after the run of the record of these events
abbrev pub seen_again : Settings → List Timed → List (List ℕ)
seen_again settings events = sight (replayed_all (first_replay settings) events).state

-- at second 5
abbrev pub all_at_5 : List Happening → List Timed
all_at_5 events = map (on 5) events

-- ---- runs

-- a client locks the agent, and tries another passphrase; then it has the right one
abbrev pub locked : List Happening
locked = Joined Clients ∷ Heard 1 (lock (codes "pw")) ∷ Took 1 5 ∷ Heard 1 (unlock (codes "no")) ∷ []

-- behind the wrong passphrase the client has the right one
abbrev pub unlocked : List Happening
unlocked = locked ++ Took 1 5 ∷ Heard 1 (unlock (codes "pw")) ∷ []

-- an addition comes in two pieces, and then a list is asked for
abbrev pub listed : List Happening
listed = Joined Clients ∷ Heard 1 (take 10 (add 17)) ∷ Heard 1 (drop 10 (add 17)) ∷ Took 1 5 ∷ Heard 1 list ∷ []

-- a lock whose passphrase is cut short, and a bad length behind it
abbrev pub refused : List Happening
refused = Joined Clients ∷ Heard 1 (0 ∷ 0 ∷ 0 ∷ 3 ∷ 22 ∷ 112 ∷ 119 ∷ [] ++ 0 ∷ 0 ∷ 0 ∷ 0 ∷ 1 ∷ 2 ∷ []) ∷ Took 1 5 ∷ []

-- a client names a smartcard and its PIN
abbrev pub carded : List Happening
carded = Joined Clients ∷ Heard 1 (0 ∷ 0 ∷ 0 ∷ 6 ∷ 20 ∷ 1 ∷ 2 ∷ 3 ∷ 4 ∷ 5 ∷ []) ∷ []

-- a client asks for a list
abbrev pub asked : List Happening
asked = Joined Clients ∷ Heard 1 list ∷ []

-- the helper's port ends in the second in which it is late
abbrev pub late : List Timed
late = on 0 (Joined Clients) ∷ on 0 (Heard 1 (add 17)) ∷ on 0 (Took 1 5) ∷ on 0 (Heard 1 (sign 17))
    ∷ on 0 (Started 1 (ticket 9)) ∷ on 0 (Joined Children) ∷ on 0 (Heard 2 (hello 1 9)) ∷ on 60 (Ended 2) ∷ []
