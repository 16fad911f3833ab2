-- Literal rows: what one client is replied, message by message (draft-miller-ssh-agent, "Protocol
-- Messages"). The numbers are written out, so that a wrong definition can't agree with itself.
use Rattle.std.specs.Prelude.{ℕ, zero, suc, List, [], ◌∷◌, ◌++◌, length, replicate, codes}
use Rattle.world_ports.specs.declared.Moment.{Moment}
use Rattle.world_ports.specs.declared.Door.TheVariants.{Clients}
use Rattle.agent_model.specs.Events.{Happening, Heard, Joined, Took, Tick}
use Rattle.agent_model.specs.State.{State, first_state, no_settings, owed_of}
use Rattle.agent_model.specs.Step.{step}

-- a message that the client of port 1 sends at a second of both clocks
pub record Sent : Type 0 where
  pub second : ℕ
  pub bytes : List ℕ

-- at second 0
abbrev pub now : List ℕ → Sent
now bytes = record { second = 0; bytes = bytes }

-- at this second
abbrev pub at : ℕ → List ℕ → Sent
at second bytes = record { second = second; bytes = bytes }

-- both clocks at this second
abbrev pub moment_at : ℕ → Moment
moment_at second = record { mono = second; wall = second }

-- one client is there
abbrev pub one_client : State
one_client = (step (first_state no_settings) (moment_at 0) (Joined Clients)).state

-- the state after a message, and after its reply was taken
abbrev pub asked : Sent → State → State
asked sent state = (step state (moment_at sent.second) (Heard 1 sent.bytes)).state

-- the state after the client took all that it is owed
abbrev pub took_all : Sent → State → State
took_all sent state = (step state (moment_at sent.second) (Took 1 (length (owed_of 1 state)))).state

-- what it is owed after each message, the reply to the one before taken
abbrev pub replies_in : State → List Sent → List (List ℕ)
replies_in state [] = []
replies_in state (sent ∷ later) =
    owed_of 1 (asked sent state) ∷ replies_in (took_all sent (asked sent state)) later

-- what a client of a new agent is owed after each message
abbrev pub replies : List Sent → List (List ℕ)
replies sent = replies_in one_client sent

-- the state after these messages, each reply taken
abbrev pub state_after : List Sent → State
state_after sent = after one_client sent
  where
    after : State → List Sent → State
    after state [] = state
    after state (one ∷ later) = after (took_all one (asked one state)) later

-- ---- replies

-- SSH_AGENT_FAILURE, SSH_AGENT_SUCCESS, and SSH_AGENT_IDENTITIES_ANSWER with no identity
abbrev pub failed : List ℕ
failed = 0 ∷ 0 ∷ 0 ∷ 1 ∷ 5 ∷ []

-- SSH_AGENT_SUCCESS
abbrev pub done : List ℕ
done = 0 ∷ 0 ∷ 0 ∷ 1 ∷ 6 ∷ []

-- SSH_AGENT_IDENTITIES_ANSWER with no identity
abbrev pub none_listed : List ℕ
none_listed = 0 ∷ 0 ∷ 0 ∷ 5 ∷ 12 ∷ 0 ∷ 0 ∷ 0 ∷ 0 ∷ []

-- ---- keys and messages

-- the blob of a key with a public tag of 32 equal bytes, and the fields behind it: the secret, and
-- a comment
abbrev pub blob : ℕ → List ℕ
blob tag = 0 ∷ 0 ∷ 0 ∷ 24 ∷ (codes "keyed-sha256@example.com" ++ 0 ∷ 0 ∷ 0 ∷ 32 ∷ replicate 32 tag)

-- the fields of an addition: the blob's, a secret of 32 equal bytes, and a comment of three bytes
abbrev pub key : ℕ → List ℕ → List ℕ
key tag comment = blob tag ++ 0 ∷ 0 ∷ 0 ∷ 32 ∷ replicate 32 33 ++ 0 ∷ 0 ∷ 0 ∷ 3 ∷ comment

-- SSH_AGENTC_ADD_IDENTITY; SSH_AGENTC_ADD_ID_CONSTRAINED with a lifetime of 10 seconds, with the
-- user to be asked, with a constraint of an unknown number, and with an extension of an unknown
-- name
abbrev pub add : ℕ → List ℕ
add tag = 0 ∷ 0 ∷ 0 ∷ 108 ∷ 17 ∷ key tag (codes "one")

-- SSH_AGENTC_ADD_ID_CONSTRAINED with a lifetime of 10 seconds
abbrev pub add_for_ten : ℕ → List ℕ
add_for_ten tag = 0 ∷ 0 ∷ 0 ∷ 113 ∷ 25 ∷ (key tag (codes "one") ++ 1 ∷ 0 ∷ 0 ∷ 0 ∷ 10 ∷ [])

-- the addition of a key that asks the user
abbrev pub add_asking : ℕ → List ℕ
add_asking tag = 0 ∷ 0 ∷ 0 ∷ 109 ∷ 25 ∷ (key tag (codes "one") ++ 2 ∷ [])

-- an addition with a constraint of an unknown number
abbrev pub add_unknown : ℕ → List ℕ
add_unknown tag = 0 ∷ 0 ∷ 0 ∷ 109 ∷ 25 ∷ (key tag (codes "one") ++ 9 ∷ [])

-- with one, with two, with no and with twice one use (ours)
abbrev pub uses : ℕ → List ℕ
uses count = 255 ∷ 0 ∷ 0 ∷ 0 ∷ 20 ∷ (codes "uses-v00@example.com" ++ 0 ∷ 0 ∷ 0 ∷ count ∷ [])

-- the addition of a key that may be used once
abbrev pub add_once : ℕ → List ℕ
add_once tag = 0 ∷ 0 ∷ 0 ∷ 137 ∷ 25 ∷ (key tag (codes "one") ++ uses 1)

-- the addition of a key that may be used twice
abbrev pub add_for_two : ℕ → List ℕ
add_for_two tag = 0 ∷ 0 ∷ 0 ∷ 137 ∷ 25 ∷ (key tag (codes "one") ++ uses 2)

-- an addition with no use, which is refused
abbrev pub add_never : ℕ → List ℕ
add_never tag = 0 ∷ 0 ∷ 0 ∷ 137 ∷ 25 ∷ (key tag (codes "one") ++ uses 0)

-- an addition that has the constraint of uses twice, which is refused
abbrev pub add_once_twice : ℕ → List ℕ
add_once_twice tag = 0 ∷ 0 ∷ 0 ∷ 166 ∷ 25 ∷ (key tag (codes "one") ++ (uses 1 ++ uses 1))

-- with one and with two uses, and with the user to be asked
abbrev pub add_once_asking : ℕ → List ℕ
add_once_asking tag = 0 ∷ 0 ∷ 0 ∷ 138 ∷ 25 ∷ (key tag (codes "one") ++ uses 1 ++ 2 ∷ [])

-- the addition of a key that may be used twice and asks the user
abbrev pub add_for_two_asking : ℕ → List ℕ
add_for_two_asking tag = 0 ∷ 0 ∷ 0 ∷ 138 ∷ 25 ∷ (key tag (codes "one") ++ uses 2 ++ 2 ∷ [])

-- SSH_AGENTC_REQUEST_IDENTITIES, and the answer that lists one key
abbrev pub list : List ℕ
list = 0 ∷ 0 ∷ 0 ∷ 1 ∷ 11 ∷ []

-- SSH_AGENT_IDENTITIES_ANSWER with the key of this tag alone
abbrev pub listed : ℕ → List ℕ
listed tag =
    0 ∷ 0 ∷ 0 ∷ 80 ∷ 12 ∷ 0 ∷ 0 ∷ 0 ∷ 1 ∷ 0 ∷ 0 ∷ 0 ∷ 64 ∷ (blob tag ++ 0 ∷ 0 ∷ 0 ∷ 3 ∷ codes "one")

-- SSH_AGENTC_SIGN_REQUEST for two bytes, SSH_AGENTC_REMOVE_IDENTITY,
-- SSH_AGENTC_REMOVE_ALL_IDENTITIES
abbrev pub sign : ℕ → List ℕ
sign tag =
    0 ∷ 0 ∷ 0 ∷ 79 ∷ 13 ∷ 0 ∷ 0 ∷ 0 ∷ 64 ∷ (blob tag ++ 0 ∷ 0 ∷ 0 ∷ 2 ∷ 1 ∷ 2 ∷ 0 ∷ 0 ∷ 0 ∷ 0 ∷ [])

-- SSH_AGENTC_REMOVE_IDENTITY
abbrev pub remove : ℕ → List ℕ
remove tag = 0 ∷ 0 ∷ 0 ∷ 69 ∷ 18 ∷ 0 ∷ 0 ∷ 0 ∷ 64 ∷ blob tag

-- SSH_AGENTC_REMOVE_ALL_IDENTITIES
abbrev pub remove_all : List ℕ
remove_all = 0 ∷ 0 ∷ 0 ∷ 1 ∷ 19 ∷ []

-- SSH_AGENTC_LOCK and SSH_AGENTC_UNLOCK with two bytes, and SSH_AGENTC_LOCK with none
abbrev pub lock : List ℕ → List ℕ
lock two = 0 ∷ 0 ∷ 0 ∷ 7 ∷ 22 ∷ 0 ∷ 0 ∷ 0 ∷ 2 ∷ two

-- SSH_AGENTC_UNLOCK with two bytes
abbrev pub unlock : List ℕ → List ℕ
unlock two = 0 ∷ 0 ∷ 0 ∷ 7 ∷ 23 ∷ 0 ∷ 0 ∷ 0 ∷ 2 ∷ two

-- SSH_AGENTC_LOCK with no bytes
abbrev pub lock_empty : List ℕ
lock_empty = 0 ∷ 0 ∷ 0 ∷ 5 ∷ 22 ∷ 0 ∷ 0 ∷ 0 ∷ 0 ∷ []

-- SSH_AGENTC_EXTENSION of the name "query"
abbrev pub extension : List ℕ
extension = 0 ∷ 0 ∷ 0 ∷ 10 ∷ 27 ∷ 0 ∷ 0 ∷ 0 ∷ 5 ∷ codes "query"

-- ---- states

-- the ports that this event at second 0 closes, in this state
abbrev pub closed_by : Happening → State → List ℕ
closed_by event state = (step state (moment_at 0) event).closes

-- the state after this event at second 0, in this state
abbrev pub with_event : Happening → State → State
with_event event state = (step state (moment_at 0) event).state

-- so many clients joined
abbrev pub joined_often : ℕ → State
joined_often zero = first_state no_settings
joined_often (suc count) = with_event (Joined Clients) (joined_often count)

-- the client of port 1 sent these bytes, and its reply wasn't taken
abbrev pub heard : List ℕ → State
heard bytes = with_event (Heard 1 bytes) one_client

-- it took the first bytes of the reply after that
abbrev pub heard_and_took : List ℕ → ℕ → State
heard_and_took bytes count = with_event (Took 1 count) (heard bytes)

-- nothing but the time, at these seconds of the two clocks, one after another
abbrev pub ticked : List Moment → State
ticked [] = first_state no_settings
ticked (moment ∷ earlier) = (step (ticked earlier) moment Tick).state
