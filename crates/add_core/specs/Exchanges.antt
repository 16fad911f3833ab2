-- Requests and their replies: what is sent, what is told of the reply, and what is made of it.
use Rattle.std.specs.Prelude.{◌≡◌, ℕ, nat_lt, List, [], length, Option, None, Some, Result, Ok, Err, if◌then◌else◌}
use Rattle.wire_text.specs.Bounds.{longest_body}
use Rattle.wire_text.specs.Wire.{string}
use Rattle.agent_msg.specs.declared.agent_reply.ReplyFault.{ReplyFault}
use Rattle.agent_msg.specs.declared.agent_reply.ReplyFault.TheVariants.{Empty}
use Rattle.agent_msg.specs.ReplyReading.{AgentReply, Failure, Success, Identities, Signature, reply_of}
use Rattle.add_core.specs.declared.fault.AddFault.{AddFault}
use Rattle.add_core.specs.declared.fault.AddFault.TheVariants.{File, PeerFault, InputFault, OutputFault, BadReply, Refused, TooLong}
use Rattle.add_core.specs.declared.fault.Stop.{Stop}
use Rattle.add_core.specs.declared.fault.Stop.TheVariants.{Fault, Memory}
use Rattle.add_core.specs.Hearing.{answer_at}
use Rattle.add_core.specs.Steps.{Step, nothing, failing, telling, followed}

-- ---- one request

-- the frame is sent, and a reply is there or not
abbrev pub answered : List ℕ → Option (List ℕ × List ℕ) → Step
answered frame (Some answer) = record { sent = frame; told = []; left = answer.1; fault = None }
answered frame None = record { sent = frame; told = []; left = []; fault = Some BadReply }

-- the frame is sent, over these bytes of the agent
abbrev pub asked : List ℕ → List ℕ → Step
asked frame replies = answered frame (answer_at replies)

-- the reply of this body, where it is there
abbrev pub reply_in : Option (List ℕ × List ℕ) → Result AgentReply ReplyFault
reply_in (Some answer) = reply_of answer.0
reply_in None = Err Empty

-- the agent's next reply
abbrev pub reply_at : List ℕ → Result AgentReply ReplyFault
reply_at replies = reply_in (answer_at replies)

-- why a reply isn't SUCCESS
abbrev pub verdict_of : Result AgentReply ReplyFault → Option AddFault
verdict_of (Ok Success) = None
verdict_of (Ok Failure) = Some Refused
verdict_of (Ok (Identities identities)) = Some BadReply
verdict_of (Ok (Signature signature)) = Some BadReply
verdict_of (Err fault) = Some BadReply

-- nothing more is done where there is no fault; a fault ends the work
abbrev pub judged : Option AddFault → List ℕ → Step
judged None left = nothing left
judged (Some fault) left = failing fault

-- a frame is sent, and where the reply is SUCCESS the line is written
abbrev pub requested : List ℕ → List ℕ → List ℕ → Step
requested frame line replies =
    followed (followed (asked frame replies) (judged (verdict_of (reply_at replies)))) (telling line)

-- ---- what is sent

-- the frame of a body, with the line for its success; a body that is too long isn't sent
abbrev pub sized : List ℕ → List ℕ → Result (List ℕ × List ℕ) AddFault
sized body line = if nat_lt longest_body (length body) then Err TooLong else Ok (string body, line)

-- what is made of a reading: its step, or its fault
abbrev pub stepped : {A : Type 0} → Result A AddFault → (A → Step) → Step
stepped (Ok value) step = step value
stepped (Err fault) step = failing fault

-- what a stop tells of a reading: its fault, unless a file, the connection, the input or an output
-- failed or memory ran out
abbrev pub Refuses : {A : Type 0} → Stop → Result A AddFault → Type 0
Refuses Memory defined = Unit {0}
Refuses (Fault (File place)) defined = Unit {0}
Refuses (Fault PeerFault) defined = Unit {0}
Refuses (Fault InputFault) defined = Unit {0}
Refuses (Fault OutputFault) defined = Unit {0}
Refuses (Fault fault) defined = defined ≡ Err fault

-- what the code tells of a reading
abbrev pub Tells : {T A : Type 0} → (T → A) → Result T Stop → Result A AddFault → Type 0
Tells seen (Ok value) defined = defined ≡ Ok (seen value)
Tells seen (Err stop) defined = Refuses stop defined

-- what the code makes of a reply, by why it isn't SUCCESS
abbrev pub Judges : {T : Type 0} → Result T Stop → Option AddFault → Type 0
Judges (Ok value) verdict = verdict ≡ None
Judges (Err Memory) verdict = Unit {0}
Judges (Err (Fault Refused)) verdict = verdict ≡ Some Refused
Judges (Err (Fault BadReply)) verdict = verdict ≡ Some BadReply
Judges (Err (Fault fault)) verdict = ⊥
