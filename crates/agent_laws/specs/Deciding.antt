-- The law of history as a test, and runs on which it is computed (ours).
use Rattle.std.specs.Prelude.{ℕ, Bool, true, false, List, [], ◌∷◌, ◌++◌, map, Option, Some, None, ◌==◌, ◌&&◌}
use Rattle.std.specs.Str.{bytes_eq}
use Rattle.world_ports.specs.declared.Door.TheVariants.{Clients, Children}
use Rattle.agent_msg.specs.Requests.{Signing}
use Rattle.agent_model.specs.Actions.{Action, Answered, Asked, ForBinding, ForSignature, Granted, Lost, Over, Proved, Purpose, Raised, Requested}
use Rattle.agent_model.specs.BindRows.{bind, bind_certified, add_certified, add_only_to, right}
use Rattle.agent_model.specs.ChildRows.{hello, number, ticket}
use Rattle.agent_model.specs.Events.{Happening, Heard, Joined, Started, Timed, Took}
use Rattle.agent_model.specs.Rows.{add_asking, add_once_asking, moment_at, sign}
use Rattle.agent_model.specs.Runs.{Stamped, history}
use Rattle.agent_model.specs.State.{first_state, no_settings}
use Rattle.agent_laws.specs.Dues.{Claim, due_signing}

-- ---- the law, as a test

-- no request for a signature is due
abbrev pub is_none_due : Option Claim → Bool
is_none_due None = true
is_none_due (Some claim) = false

-- what is due is this request of the client of this port
abbrev pub is_for : ℕ → Signing → Option Claim → Bool
is_for port signing None = false
is_for port signing (Some claim) = (claim.port == port) && (bytes_eq claim.signing.blob signing.blob
    && (bytes_eq claim.signing.message signing.message && (claim.signing.flags == signing.flags)))

-- an ask may be put for this purpose: a signature where it is due, a binding where no signature is
abbrev pub is_due : Purpose → ℕ → Option Claim → Bool
is_due (ForSignature signing) port due = is_for port signing due
is_due (ForBinding binding) port due = is_none_due due

-- the action may come where this is due
abbrev pub stands_at : Action → Option Claim → Bool
stands_at (Requested requesting) due = is_none_due due
stands_at (Asked asking) due = is_due asking.purpose asking.port due
stands_at (Answered settled) due = is_none_due due
stands_at (Proved proving) due = is_none_due due
stands_at (Raised raising) due = is_none_due due
stands_at (Granted job) due = is_none_due due
stands_at (Over job) due = is_none_due due
stands_at Lost due = is_none_due due

-- behind these actions each of those may come, the first one first, and nothing is due at the end
abbrev pub is_lawful : Option ℕ → List Stamped → List Stamped → Bool
is_lawful life past [] = is_none_due (due_signing life past)
is_lawful life past (one ∷ later) =
    stands_at one.action (due_signing life past) && is_lawful life (one ∷ past) later

-- ---- runs

-- at this second of both clocks, and at second 0 of one and this one of the other
abbrev pub at : ℕ → Happening → Timed
at second event = record { moment = moment_at second; event = event }

-- an event at second 0 of the monotonic clock and this one of the wall's
abbrev pub at_wall : ℕ → Happening → Timed
at_wall wall event = record { moment = record { mono = 0; wall = wall }; event = event }

-- these events, all at second 0, and then these
abbrev pub lawful_then : List Happening → List Timed → Bool
lawful_then events later =
    is_lawful None [] (history (first_state no_settings) (map (at 0) events ++ later))

-- these events, all at second 0, make a lawful run
abbrev pub lawful : List Happening → Bool
lawful events = lawful_then events []

-- GRANTED: the job's number
abbrev pub granted : ℕ → List ℕ
granted job = 0 ∷ 0 ∷ 0 ∷ 9 ∷ 105 ∷ number job

-- the client of port 1 waits for the user, who is asked by the child process at port 2
abbrev pub asking : List Happening → List Happening
asking events =
    Joined Clients ∷ Heard 1 (add_asking 17) ∷ Took 1 5 ∷ Heard 1 (sign 17) ∷ Started 1 (ticket 9)
    ∷ Joined Children ∷ Heard 2 (hello 1 9) ∷ events

-- the clients of ports 1 and 2 wait for the user, who is asked by the child processes at ports 3 and
-- 4, about a key that may be used once
abbrev pub both_asking : List Happening → List Happening
both_asking events =
    Joined Clients ∷ Joined Clients ∷ Heard 1 (add_once_asking 17) ∷ Took 1 5 ∷ Heard 1 (sign 17)
    ∷ Heard 2 (sign 17) ∷ Started 1 (ticket 9) ∷ Started 2 (ticket 7) ∷ Joined Children
    ∷ Heard 3 (hello 1 9) ∷ Joined Children ∷ Heard 4 (hello 2 7) ∷ events

-- the client of port 1 asked to bind its connection, under a key with constraints, and this is
-- answered
abbrev pub binding : List ℕ → List Happening → List Happening
binding answer events =
    Joined Clients ∷ Heard 1 (add_only_to 17) ∷ Took 1 5 ∷ Heard 1 (bind 161 193 0)
    ∷ Started 1 (ticket 9) ∷ Joined Children ∷ Heard 2 (hello 1 9) ∷ Took 2 111 ∷ Heard 2 answer
    ∷ Took 1 5 ∷ events

-- the client of port 1 added a key with a certificate, and bound its connection to a host with one
abbrev pub certified : List Happening
certified = Joined Clients ∷ Heard 1 add_certified ∷ Took 1 5 ∷ Heard 1 bind_certified
    ∷ Started 1 (ticket 9)
    ∷ Joined Children ∷ Heard 2 (hello 1 9) ∷ Heard 2 (right 1) ∷ Took 1 5 ∷ []
