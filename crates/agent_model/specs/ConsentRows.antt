-- Literal rows of the user's consent: what a child process that asks sends, byte by byte (ours).
use Rattle.std.specs.Prelude.{ℕ, zero, suc, List, [], ◌∷◌, ◌++◌, codes, map, replicate}
use Rattle.world_ports.specs.declared.Door.TheVariants.{Clients, Children}
use Rattle.world_ports.specs.declared.Job.{Job}
use Rattle.world_ports.specs.declared.JobKind.TheVariants as kinds
use Rattle.helper_link.specs.declared.ask.Ask.{Ask}
use Rattle.agent_model.specs.ChildRows.{hello, number, then, ticket}
use Rattle.agent_model.specs.Events.{Happening, Ended, Heard, Joined, Started, Took}
use Rattle.agent_model.specs.Rows.{add, add_asking, add_for_two_asking, add_once_asking, blob, key, sign}
use Rattle.agent_model.specs.State.{State, first_state, no_settings}
use Rattle.agent_model.specs.Step.{step}

-- ---- what is sent

-- GRANTED and DENIED: the job's number
abbrev pub granted : ℕ → List ℕ
granted job = 0 ∷ 0 ∷ 0 ∷ 9 ∷ 105 ∷ number job

-- DENIED: the job's number
abbrev pub denied : ℕ → List ℕ
denied job = 0 ∷ 0 ∷ 0 ∷ 9 ∷ 106 ∷ number job

-- TRUE: the ask's number
abbrev pub true_for : ℕ → List ℕ
true_for ask = 0 ∷ 0 ∷ 0 ∷ 9 ∷ 103 ∷ number ask

-- a length that no frame has
abbrev pub no_frame : List ℕ
no_frame = 0 ∷ 0 ∷ 0 ∷ 0 ∷ []

-- SSH_AGENTC_ADD_ID_CONSTRAINED with a lifetime of 10 seconds and with the user to be asked
abbrev pub add_asking_for_ten : ℕ → List ℕ
add_asking_for_ten tag =
    0 ∷ 0 ∷ 0 ∷ 114 ∷ 25 ∷ (key tag (codes "one") ++ 1 ∷ 0 ∷ 0 ∷ 0 ∷ 10 ∷ 2 ∷ [])

-- ---- states

-- the job that asks the user
abbrev pub confirm_job : ℕ → Job
confirm_job number = record { number = number; kind = kinds.Confirm }

-- the client of port 1 added the key of tag 17, which asks the user, and asked for a signature with
-- it
abbrev pub asking : List Happening → State
asking events = then (first_state no_settings) (Joined Clients ∷ Heard 1 (add_asking 17) ∷ Took 1 5
    ∷ Heard 1 (sign 17) ∷ events)

-- the child process of port 2 asks the user for it
abbrev pub asked : List Happening → State
asked events = asking (Started 1 (ticket 9) ∷ Joined Children ∷ Heard 2 (hello 1 9) ∷ events)

-- the clients of ports 1 and 2 asked for a signature with the key of this addition, and the child
-- processes of ports 3 and 4 ask the user for each of them
abbrev pub both_ask : List ℕ → List Happening → State
both_ask addition events = then (first_state no_settings) (Joined Clients ∷ Joined Clients
    ∷ Heard 1 addition ∷ Took 1 5 ∷ Heard 1 (sign 17) ∷ Heard 2 (sign 17)
    ∷ Started 1 (ticket 9) ∷ Started 2 (ticket 7) ∷ Joined Children ∷ Heard 3 (hello 1 9)
    ∷ Joined Children ∷ Heard 4 (hello 2 7) ∷ events)

-- the key has one use
abbrev pub both_asked : List Happening → State
both_asked events = both_ask (add_once_asking 17) events

-- the key has two
abbrev pub both_asked_of_two : List Happening → State
both_asked_of_two events = both_ask (add_for_two_asking 17) events

-- another client is there before, at port 2, and the child process is at port 3
abbrev pub asked_beside : List Happening → State
asked_beside events =
    asking (Joined Clients ∷ Started 1 (ticket 9) ∷ Joined Children ∷ Heard 3 (hello 1 9) ∷ events)

-- so many clients more wait for the user, each for its own signature with that key
abbrev pub asking_often : ℕ → State
asking_often zero = asking []
asking_often (suc count) =
    then (asking_often count) (Joined Clients ∷ Heard (suc (suc count)) (sign 17) ∷ [])

-- so many asks with the key of tag 18 are unanswered, whose clients left, while the child process
-- of port 2 asks
abbrev pub unanswered : ℕ → State
unanswered zero =
    then (first_state no_settings) (Joined Clients ∷ Heard 1 (add 18) ∷ Took 1 5
    ∷ Heard 1 (add_asking 17) ∷ Took 1 5 ∷ Heard 1 (sign 17) ∷ Started 1 (ticket 9)
    ∷ Joined Children ∷ Heard 2 (hello 1 9) ∷ [])
unanswered (suc count) = then (unanswered count)
    (Joined Clients ∷ Heard (suc (suc (suc count))) (sign 18) ∷ Ended (suc (suc (suc count))) ∷ [])

-- each unanswered ask has a body of so many bytes
abbrev pub of_size : ℕ → State → State
of_size size state = record state {
  under_way = record state.under_way {
    link = record state.under_way.link {
      asks = map (λ (ask : Ask). record ask { size = size }) state.under_way.link.asks;
    };
  };
}

-- the state after this event, at these seconds of the monotonic and of the wall clock
abbrev pub at_second : ℕ → ℕ → Happening → State → State
at_second mono wall event state = (step state (record { mono = mono; wall = wall }) event).state

-- a key that lives for ten seconds was asked for at once
abbrev pub short_lived : State
short_lived = then (first_state no_settings) (Joined Clients ∷ Heard 1 (add_asking_for_ten 17)
    ∷ Took 1 5 ∷ Heard 1 (sign 17)
    ∷ Started 1 (ticket 9) ∷ Joined Children ∷ Heard 2 (hello 1 9) ∷ [])

-- ---- a key for one host

-- a number of one byte, as 8 bytes, and a string of a length of one byte
abbrev pub text : ℕ → List ℕ → List ℕ
text size bytes = 0 ∷ 0 ∷ 0 ∷ size ∷ bytes

-- the key of tag 17 asks the user, and is for any user at web.example.org alone, whose host key is
-- certified by the authority of tag 162 (OpenSSH's PROTOCOL.agent,
-- "restrict-destination-v00@openssh.com key constraint extension")
abbrev pub add_for_host : List ℕ
add_for_host = 0 ∷ 0 ∷ 1 ∷ 22 ∷ 25 ∷ (key 17 (codes "one")
    ++ 255 ∷ text 36 (codes "restrict-destination-v00@openssh.com")
    ++ text 124 (text 120 (text 12 (text 0 [] ++ text 0 [] ++ text 0 [])
    ++ text 96 (text 0 [] ++ text 15 (codes "web.example.org") ++ text 0 [] ++ text 64 (blob 162)
    ++ 1 ∷ [])
    ++ text 0 [])) ++ 2 ∷ [])

-- a host's certificate, which is valid from second 100 up to second 200 (OpenSSH's
-- PROTOCOL.certkeys)
abbrev pub certificate : List ℕ
certificate = text 32 (codes "ssh-ed25519-cert-v01@openssh.com") ++ text 32 (replicate 32 5)
    ++ text 32 (replicate 32 49)
    ++ number 1 ++ 0 ∷ 0 ∷ 0 ∷ 2 ∷ text 2 (codes "id") ++ text 17 (text 13 (codes "*.example.org"))
    ++ number 100
    ++ number 200 ++ text 0 [] ++ text 0 [] ++ text 0 [] ++ text 64 (blob 162) ++ text 1 (codes "x")

-- SSH_AGENTC_EXTENSION of the name "session-bind@openssh.com": the host key, a session of 32 equal
-- bytes, a signature of two, and not forwarding
abbrev pub bind : List ℕ
bind = 0 ∷ 0 ∷ 1 ∷ 68 ∷ 27 ∷ text 24 (codes "session-bind@openssh.com") ++ text 248 certificate
    ++ text 32 (replicate 32 193) ++ text 2 (codes "sg") ++ 0 ∷ []

-- SSH_AGENTC_SIGN_REQUEST for a login to that session (RFC 4252, section 7)
abbrev pub sign_login : List ℕ
sign_login = 0 ∷ 0 ∷ 0 ∷ 247 ∷ 13 ∷ text 64 (blob 17) ++ text 170 (text 32 (replicate 32 193) ++ 50
    ∷ text 1 (codes "u")
    ++ text 14 (codes "ssh-connection") ++ text 9 (codes "publickey") ++ 1
    ∷ text 24 (codes "keyed-sha256@example.com")
    ++ text 64 (blob 17)) ++ 0 ∷ 0 ∷ 0 ∷ 0 ∷ []

-- the client of port 1 is bound to that host, and asks for that signature at second 150 of the wall
-- clock; the child process of port 3 asks the user, for job 2
abbrev pub bound_to_host : State
bound_to_host = then (at_second 0 150 (Heard 1 sign_login) (then (first_state no_settings)
    (Joined Clients ∷ Heard 1 add_for_host
    ∷ Took 1 5 ∷ Heard 1 bind ∷ Started 1 (ticket 9) ∷ Joined Children ∷ Heard 2 (hello 1 9)
    ∷ Heard 2 (true_for 1)
    ∷ Took 1 5 ∷ [])))
    (Started 2 (ticket 7) ∷ Joined Children ∷ Heard 3 (hello 2 7) ∷ [])
