-- Runs on which what becomes of an ask is computed, and what is put to the helper (ours): literal rows, each of which
-- refuses a wrong definition of the agent.
use Rattle.std.specs.Prelude.{ℕ, List, [], ◌∷◌, ◌++◌, map, Option}
use Rattle.std.specs.Option.{option_map}
use Rattle.world_ports.specs.declared.Door.TheVariants.{Clients, Children}
use Rattle.child_msg.specs.Messages.{Sign, ToChildMessage}
use Rattle.agent_model.specs.ChildRows.{hello, private, signed, ticket}
use Rattle.agent_model.specs.Events.{Happening, Heard, Joined, Started, Took}
use Rattle.agent_model.specs.Fates.{Fate, actions_of, fate_of}
use Rattle.agent_model.specs.Rows.{add, blob, sign}
use Rattle.agent_model.specs.Runs.{run}
use Rattle.agent_model.specs.State.{Port, State, Waits, find_port, first_state, no_settings}
use Rattle.agent_laws.specs.Answered.{times_lost}
use Rattle.agent_laws.specs.Deciding.{asking, at}
use Rattle.agent_laws.specs.Puts.{messages_of}

-- ---- what is computed of these events, all at second 0

-- the state that they lead to
abbrev pub left_by : List Happening → State
left_by events = run (first_state no_settings) (map (at 0) events)

-- what becomes of the ask of this number
abbrev pub fate_in_run : ℕ → List Happening → Fate
fate_in_run ask events = fate_of ask (actions_of (first_state no_settings) (map (at 0) events))

-- what the client of this port waits for, where it is open
abbrev pub waits_at : ℕ → List Happening → Option Waits
waits_at number events = option_map (λ (port : Port). port.waits) (find_port number (left_by events).ports)

-- how often the helper was lost, by the actions
abbrev pub losses_in : List Happening → ℕ
losses_in events = times_lost (actions_of (first_state no_settings) (map (at 0) events))

-- the messages that are put
abbrev pub put_by : List Happening → List ToChildMessage
put_by events = messages_of (first_state no_settings) (map (at 0) events)

-- ---- runs

-- the client of port 1 adds the key of tag 17 and asks for a signature with it
abbrev pub one_asks : List Happening → List Happening
one_asks events = Joined Clients ∷ Heard 1 (add 17) ∷ Took 1 5 ∷ Heard 1 (sign 17) ∷ events

-- the helper names itself and answers in one piece
abbrev pub at_once : List Happening
at_once = one_asks (Started 1 (ticket 9) ∷ Joined Children ∷ Heard 2 (hello 1 9 ++ signed 1 (7 ∷ 8 ∷ 9 ∷ [])) ∷ [])

-- the helper names itself, and a piece of it is a frame too long to be one
abbrev pub bad_frame : List Happening
bad_frame = one_asks (Started 1 (ticket 9) ∷ Joined Children ∷ Heard 2 (hello 1 9) ∷ Heard 2 (255 ∷ 255 ∷ 255 ∷ 255 ∷ []) ∷ [])

-- while an ask waits for the helper, a child process that asks the user sends an answer to it
abbrev pub other_answers : List Happening
other_answers = asking (Joined Clients ∷ Heard 3 (add 18) ∷ Took 3 5 ∷ Heard 3 (sign 18) ∷ Heard 2 (signed 1 (7 ∷ 8 ∷ 9 ∷ [])) ∷ [])

-- two clients ask, before the helper is there
abbrev pub two_ask : List Happening
two_ask = one_asks (Joined Clients ∷ Heard 2 (sign 17) ∷ [])

-- the message of an ask of this number for a signature of the two bytes 1 and 2 with the key of this tag
abbrev pub sign_message : (ask tag : ℕ) → ToChildMessage
sign_message ask tag =
    Sign record { ask = ask; private = private tag; blob = blob tag; message = 1 ∷ 2 ∷ []; flags = 0 }
