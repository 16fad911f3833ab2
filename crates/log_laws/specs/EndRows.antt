-- Literal histories of the client at port 1, and what its port is (ours).
use Rattle.std.specs.Prelude.{ℕ, Bool, false, List, [], ◌∷◌, drop, Option, Some}
use Rattle.world_ports.specs.declared.Door.TheVariants.{Clients}
use Rattle.helper_link.specs.declared.answer.Answer.TheVariants as answer
use Rattle.agent_model.specs.Actions.{Action, Answered, Asked, ForBinding, ForSignature, Raised, Requested}
use Rattle.agent_model.specs.Runs.{Stamped}
use Rattle.agent_model.specs.State.{OnAsk, Port, Waits, new_port}
use Rattle.agent_model.specs.Verdicts.{Awaits}
use Rattle.log_book.specs.Rows.{ask}
use Rattle.log_laws.specs.Ends.{Came, Request, Went, ask_in, came_by, went_by}
use Rattle.log_laws.specs.Reads.{Reading}
use Rattle.log_laws.specs.Refusals.{Reason, reason_for}

-- at this second of the wall clock
abbrev pub at : ℕ → Action → Stamped
at wall action = record { moment = record { mono = 0; wall = wall }; action = action }

-- the body of a request for a signature of "m" by the key of the blob "k"
abbrev pub body : List ℕ
body = drop 4 ask

-- the client at this port makes it
abbrev pub asks : ℕ → Action
asks port = Requested (record { port = port; body = body; verdict = Awaits (OnAsk 1) })

-- it was made at this second, and this was done behind it
abbrev pub asked : ℕ → List Action → Option Request
asked wall later = Some (record { wall = wall; body = body; later = later })

-- what is read of it then
abbrev pub reading : ℕ → Reading
reading wall = record { since = wall; blob = 107 ∷ []; message = 109 ∷ [] }

-- an ask of this number is put for the client at this port
abbrev pub puts : ℕ → ℕ → Action
puts number port = Asked (record {
  ask = number;
  port = port;
  purpose = ForSignature (record { blob = 107 ∷ []; message = 109 ∷ []; flags = 0 });
  size = 64;
})

-- an ask of this number to verify the binding of the client at this port
abbrev pub verifies : ℕ → ℕ → Action
verifies number port = Asked (record {
  ask = number;
  port = port;
  purpose = ForBinding (record { host_key = 104 ∷ []; session = 115 ∷ []; forwarding = false });
  size = 64;
})

-- the user is asked about the request of the client at this port
abbrev pub raises : ℕ → Action
raises port = Raised (record {
  job = 2;
  port = port;
  addition = 1;
  signing = record { blob = 107 ∷ []; message = 109 ∷ []; flags = 0 };
})

-- the helper signs, and it refuses
abbrev pub signs : ℕ → Action
signs number = Answered (record { ask = number; asker = 1; answer = answer.Signed (115 ∷ []) })

-- the ask of this number
abbrev pub refuses : ℕ → Action
refuses number = Answered (record { ask = number; asker = 1; answer = answer.Refused })

-- what came of the client's request behind which this was done, where it takes a reply
abbrev pub came : List Action → Came
came later = came_by (went_by 1 later).put (ask_in 1 later)

-- whether the helper answered the ask that was put for it, or was lost
abbrev pub reason : List Action → Option Reason
reason later = reason_for (ask_in 1 later)

-- it went so far
abbrev pub went : Bool → Bool → Went
went raised put = record { raised = raised; put = put }

-- the client's port, which is owed these bytes
abbrev pub owes : List ℕ → Port
owes bytes = record (new_port 1 Clients) { owed = bytes }

-- and which waits
abbrev pub waits : Waits → Port
waits on = record (new_port 1 Clients) { waits = on }
