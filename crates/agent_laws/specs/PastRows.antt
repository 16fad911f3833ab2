-- Literal rows of the searches: actions of a short past, the newest first (ours).
use Rattle.std.specs.Prelude.{ℕ, List, [], ◌∷◌, drop, Option, None, true}
use Rattle.std.specs.Option.{option_map}
use Rattle.agent_msg.specs.Requests.{Signing}
use Rattle.dest_rule.specs.declared.binding.Binding.{Binding}
use Rattle.helper_link.specs.declared.answer.Answer.TheVariants as answers
use Rattle.agent_model.specs.Actions.{Action, Answered, Asked, ForSignature, Proved, Raised, Requested}
use Rattle.agent_model.specs.Rows.{blob, moment_at}
use Rattle.agent_model.specs.Runs.{Stamped}
use Rattle.agent_model.specs.State.{OnAsk}
use Rattle.agent_model.specs.Verdicts.{Awaits, Locked, Refuses, Replies, Success, Verdict}
use Rattle.agent_laws.specs.Dues.{Claim}
use Rattle.agent_laws.specs.Past.{PastAddition, held_by, last_addition}

-- at this second of both clocks
abbrev pub at : ℕ → Action → Stamped
at second action = record { moment = moment_at second; action = action }

-- the client of port 1 sent this message, and got this; it was answered SSH_AGENT_SUCCESS, or
-- refused
abbrev pub got : Verdict → List ℕ → Action
got verdict frame = Requested (record { port = 1; body = drop 4 frame; verdict = verdict })

-- the request succeeded
abbrev pub did : List ℕ → Stamped
did frame = at 0 (got (Replies Success) frame)

-- the request was refused by the lock
abbrev pub failed_to : List ℕ → Stamped
failed_to frame = at 0 (got (Refuses Locked) frame)

-- the request waits for the helper
abbrev pub waits_for : List ℕ → Stamped
waits_for frame = at 0 (got (Awaits (OnAsk 1)) frame)

-- what `sign` of this key asks for
abbrev pub signing : ℕ → Signing
signing tag = record { blob = blob tag; message = 1 ∷ 2 ∷ []; flags = 0 }

-- asks, answers, bindings and consents of port 1
abbrev pub asked_with : ℕ → ℕ → Stamped
asked_with size ask =
    at 0 (Asked (record { ask = ask; port = 1; purpose = ForSignature (signing 17); size = size }))

-- with a body of 191 bytes
abbrev pub asked : ℕ → Stamped
asked ask = asked_with 191 ask

-- the helper refused the ask of this number
abbrev pub answered : ℕ → Stamped
answered ask = at 0 (Answered (record { ask = ask; asker = 1; answer = answers.Refused }))

-- a host whose agent is forwarded, with this session
abbrev pub host : ℕ → Binding
host session = record { host_key = 9 ∷ []; session = session ∷ []; forwarding = true }

-- the binding of this session was proved for this port
abbrev pub proved : ℕ → ℕ → Stamped
proved port session = at 0 (Proved (record { port = port; binding = host session }))

-- the user is asked by this job for a signature with the addition of this number
abbrev pub raised : ℕ → ℕ → Stamped
raised job number =
    at 0 (Raised (record { job = job; port = 1; addition = number; signing = signing 17 }))

-- the number of the addition that is held at a second
abbrev pub number_at : ℕ → ℕ → List Stamped → Option ℕ
number_at second tag past = option_map (λ (one : PastAddition). one.number)
    (held_by (last_addition (blob tag) past) None second)

-- the claim of a request of port 1, and of a consent
abbrev pub claim : ℕ → Option ℕ → Claim
claim tag number = record { port = 1; addition = number; signing = signing tag }
