-- Literal rows of child processes: what the helper is sent and answers, byte by byte (ours).
use Rattle.std.specs.Prelude.{ℕ, zero, suc, List, [], ◌∷◌, ◌++◌, replicate}
use Rattle.world_ports.specs.declared.Door.TheVariants.{Clients, Children}
use Rattle.world_ports.specs.declared.Job.{Job}
use Rattle.world_ports.specs.declared.JobKind.TheVariants as kinds
use Rattle.agent_model.specs.Events.{Happening, Heard, Joined, Started, Took}
use Rattle.agent_model.specs.Rows.{add, add_for_two, add_once, blob, sign, with_event}
use Rattle.agent_model.specs.State.{State, first_state, no_settings}

-- ---- events

-- the state after these events, the first one first, each at second 0
abbrev pub then : State → List Happening → State
then state [] = state
then state (event ∷ later) = then (with_event event state) later

-- from the first state on, in which the client of port 1 then adds the key of tag 17
abbrev pub holding : List Happening → State
holding events =
    then (first_state no_settings) (Joined Clients ∷ Heard 1 (add 17) ∷ Took 1 5 ∷ events)

-- the client of port 1 added the key of tag 17 with one use, and these events came
abbrev pub holding_once : List Happening → State
holding_once events =
    then (first_state no_settings) (Joined Clients ∷ Heard 1 (add_once 17) ∷ Took 1 5 ∷ events)

-- the client of port 1 added the key of tag 17 with two uses, and these events came
abbrev pub holding_for_two : List Happening → State
holding_for_two events =
    then (first_state no_settings) (Joined Clients ∷ Heard 1 (add_for_two 17) ∷ Took 1 5 ∷ events)

-- so many child processes come, and none names itself
abbrev pub children : ℕ → State
children zero = first_state no_settings
children (suc count) = with_event (Joined Children) (children count)

-- the job that starts a helper
abbrev pub helper_job : ℕ → Job
helper_job number = record { number = number; kind = kinds.Helper }

-- ---- what a child process sends

-- a number of one byte, as 8 bytes
abbrev pub number : ℕ → List ℕ
number byte = 0 ∷ 0 ∷ 0 ∷ 0 ∷ 0 ∷ 0 ∷ 0 ∷ byte ∷ []

-- a ticket of 16 equal bytes
abbrev pub ticket : ℕ → List ℕ
ticket byte = replicate 16 byte

-- HELLO: the job's number, and the ticket
abbrev pub hello : ℕ → ℕ → List ℕ
hello job byte = 0 ∷ 0 ∷ 0 ∷ 29 ∷ 1 ∷ number job ++ 0 ∷ 0 ∷ 0 ∷ 16 ∷ ticket byte

-- SIGNED: the ask's number, and a signature of three bytes
abbrev pub signed : ℕ → List ℕ → List ℕ
signed ask three = 0 ∷ 0 ∷ 0 ∷ 16 ∷ 101 ∷ number ask ++ 0 ∷ 0 ∷ 0 ∷ 3 ∷ three

-- REFUSED: the ask's number
abbrev pub refused : ℕ → List ℕ
refused ask = 0 ∷ 0 ∷ 0 ∷ 9 ∷ 102 ∷ number ask

-- a frame that ends behind its kind
abbrev pub cut_short : List ℕ
cut_short = 0 ∷ 0 ∷ 0 ∷ 1 ∷ 101 ∷ []

-- the clients of ports 1 and 2 wait for the helper at port 3
abbrev pub two_wait : State
two_wait = holding (Joined Clients ∷ Heard 1 (sign 17) ∷ Heard 2 (sign 17) ∷ Started 1 (ticket 9)
    ∷ Joined Children ∷ Heard 3 (hello 1 9) ∷ [])

-- the state in which two clients wait for the helper, and then this event
abbrev pub lost : Happening → State
lost event = with_event event two_wait

-- ---- what the helper and the client get

-- the private string of a key: what its addition has in front of the comment
abbrev pub private : ℕ → List ℕ
private tag = blob tag ++ 0 ∷ 0 ∷ 0 ∷ 32 ∷ replicate 32 33

-- SIGN: the ask's number, the private string, the blob, the two bytes that are to be signed, and no
-- flags
abbrev pub sign_frame : ℕ → ℕ → List ℕ
sign_frame ask tag =
    0 ∷ 0 ∷ 0 ∷ 191 ∷ 1 ∷ number ask ++ 0 ∷ 0 ∷ 0 ∷ 100 ∷ private tag ++ 0 ∷ 0 ∷ 0 ∷ 64 ∷ blob tag
    ++ 0 ∷ 0 ∷ 0 ∷ 2 ∷ 1 ∷ 2 ∷ 0 ∷ 0 ∷ 0 ∷ 0 ∷ []

-- SSH_AGENT_SIGN_RESPONSE with a signature of three bytes
abbrev pub signature : List ℕ → List ℕ
signature three = 0 ∷ 0 ∷ 0 ∷ 8 ∷ 14 ∷ 0 ∷ 0 ∷ 0 ∷ 3 ∷ three
