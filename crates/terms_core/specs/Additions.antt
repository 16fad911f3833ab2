-- What a request becomes where terms are to stand behind the constraints of each key that is added
-- (draft-miller-ssh-agent, "Adding keys to the agent"; ours).
use Rattle.std.specs.Prelude.{◌≡◌, ◌==◌, ◌||◌, ℕ, nat_lt, Bool, List, [], ◌∷◌, ◌++◌, length, Option, Some, None, Result, Ok, Err, if◌then◌else◌}
use Rattle.agent_msg.specs.Reading.{request_of}
use Rattle.agent_msg.specs.Requests.{ClientRequest}
use Rattle.agent_msg.specs.declared.fault.MsgFault.{MsgFault}
use Rattle.agent_msg.specs.declared.fault.MsgFault.TheVariants.{Terms}
use Rattle.constraint_rec.specs.declared.fault.TermFault.TheVariants as kinds
use Rattle.terms_core.specs.declared.fault.BodyFault.{BodyFault}
use Rattle.terms_core.specs.declared.fault.BodyFault.TheVariants.{TooLong, Twice, Memory}
use Rattle.wire_text.specs.Bounds.{longest_body}

-- a request with this number adds a key: SSH_AGENTC_ADD_IDENTITY or SSH_AGENTC_ADD_ID_CONSTRAINED
abbrev pub adds : ℕ → Bool
adds number = (number == 17) || (number == 25)

-- an addition has constraints, and the terms are the last of them; every other request is what it was
abbrev pub with_terms : List ℕ → List ℕ → List ℕ
with_terms terms [] = []
with_terms terms (number ∷ fields) = if adds number then 25 ∷ (fields ++ terms) else number ∷ fields

-- with the terms the request is longer than an agent takes
abbrev pub too_long : List ℕ → List ℕ → Option BodyFault
too_long terms body = if nat_lt longest_body (length (with_terms terms body)) then Some TooLong else None

-- the agent would refuse it since a constraint of one kind comes again
abbrev pub repeat_by : MsgFault → Option BodyFault
repeat_by (Terms kinds.Twice) = Some Twice
repeat_by fault = None

-- the agent would read this, and no constraint of one kind comes again
abbrev pub repeat_in : Result ClientRequest MsgFault → Option BodyFault
repeat_in (Ok request) = None
repeat_in (Err fault) = repeat_by fault

-- why a request isn't passed on: with the terms it is longer than an agent takes, or one of them was given already
abbrev pub refusal : List ℕ → List ℕ → Option BodyFault
refusal terms body =
    if nat_lt longest_body (length (with_terms terms body)) then Some TooLong
    else repeat_in (request_of (with_terms terms body))

-- what an answer says of why a request isn't passed on
abbrev pub Refuses : Result Unit BodyFault → Option BodyFault → Type 0
Refuses (Ok done) why = why ≡ None
Refuses (Err TooLong) why = why ≡ Some TooLong
Refuses (Err Twice) why = why ≡ Some Twice
-- memory ran out, and nothing is known
Refuses (Err Memory) why = Unit {0}
