-- What a stream of answers settles: whole frames in order, up to the first faulty one (ours).
use Rattle.std.specs.Prelude.{ℕ, List, [], ◌∷◌, ◌++◌, Bool, true, false, Option, Some, None, Result, Ok, Err, if◌then◌else◌}
use Rattle.lists.specs.Keyed.{find_by, remove_by}
use Rattle.wire_text.specs.Bounds.{longest_body}
use Rattle.wire_text.specs.Frames.{Front, Whole, Bad, More, front, Split, split}
use Rattle.child_msg.specs.Messages.{FromChildMessage, Hello, Signed, Refused, True, False, Granted, Denied}
use Rattle.child_msg.specs.Reading.{from_child_of}
use Rattle.child_msg.specs.declared.fault.ChildFault.{ChildFault}
use Rattle.helper_link.specs.declared.answer.Answer.{Answer}
use Rattle.helper_link.specs.declared.answer.Answer.TheVariants as answer
use Rattle.helper_link.specs.declared.answer.Settled.{Settled}
use Rattle.helper_link.specs.declared.ask.Ask.{Ask}
use Rattle.helper_link.specs.declared.ask.AskKind.{AskKind}
use Rattle.helper_link.specs.declared.ask.AskKind.TheVariants.{Signing, Verifying}
use Rattle.helper_link.specs.declared.fault.LinkFault.{LinkFault}
use Rattle.helper_link.specs.declared.fault.LinkFault.TheVariants.{BadFrame, NotPending, WrongKind}

-- ---- one frame

-- the number of an ask
abbrev pub number_of : Ask → ℕ
number_of ask = ask.number

-- the first ask of this number
abbrev pub find_ask : ℕ → List Ask → Option Ask
find_ask number asks = find_by number_of number asks

-- the asks but for the first of this number
abbrev pub remove_ask : ℕ → List Ask → List Ask
remove_ask number asks = remove_by number_of number asks

-- what a frame does: it settles an ask and leaves the others, or it is faulty
pub data Verdict : Type 0 where
  Settles : (one : Settled) (left : List Ask) → Verdict
  Stops : (fault : LinkFault) → Verdict

-- an ask with its asker and its answer
abbrev pub settled_ask : ℕ → ℕ → Answer → Settled
settled_ask number asker answer = record { ask = number; asker = asker; answer = answer }

-- the kinds are the same
abbrev pub same_kind : AskKind → AskKind → Bool
same_kind Signing Signing = true
same_kind Signing Verifying = false
same_kind Verifying Signing = false
same_kind Verifying Verifying = true

-- an answer for asks of this kind, where the ask of its number is this one
abbrev pub answer_found : AskKind → ℕ → Answer → Option Ask → List Ask → Verdict
answer_found kind number answer None asks = Stops (NotPending number)
answer_found kind number answer (Some ask) asks =
    if same_kind kind ask.kind
    then Settles (settled_ask number ask.asker answer) (remove_ask number asks)
    else Stops (WrongKind number)

-- an answer for asks of this kind goes to the unanswered ask of its number
abbrev pub answer_to : AskKind → ℕ → Answer → List Ask → Verdict
answer_to kind number answer asks = answer_found kind number answer (find_ask number asks) asks

-- the four answers of a helper; the other messages are none
abbrev pub message_verdict : FromChildMessage → List Ask → Verdict
message_verdict (Hello job ticket) asks = Stops BadFrame
message_verdict (Signed ask signature) asks = answer_to Signing ask (answer.Signed signature) asks
message_verdict (Refused ask) asks = answer_to Signing ask answer.Refused asks
message_verdict (True ask) asks = answer_to Verifying ask answer.True asks
message_verdict (False ask) asks = answer_to Verifying ask answer.False asks
message_verdict (Granted job) asks = Stops BadFrame
message_verdict (Denied job) asks = Stops BadFrame

-- a body that is no message is a bad frame
abbrev pub reading_verdict : Result FromChildMessage ChildFault → List Ask → Verdict
reading_verdict (Ok message) asks = message_verdict message asks
reading_verdict (Err fault) asks = Stops BadFrame

-- what a frame of this body does, where these asks are unanswered
unfoldable pub verdict : List ℕ → List Ask → Verdict
verdict body asks = reading_verdict (from_child_of body) asks

-- ---- a stream

-- what was settled in order, the asks and bytes that are left, and the fault at which it stopped
pub record Settling : Type 0 where
  pub settled : List Settled
  pub asks : List Ask
  pub heard : List ℕ
  pub fault : Option LinkFault

-- the settling that ends at a fault: nothing more is settled, and nothing more is read
abbrev pub stopped : LinkFault → List Ask → Settling
stopped fault asks = record { settled = []; asks = asks; heard = []; fault = Some fault }

-- the settling that ends before a whole frame: nothing more is settled until more bytes come
abbrev pub waiting : List ℕ → List Ask → Settling
waiting rest asks = record { settled = []; asks = asks; heard = rest; fault = None }

-- behind the whole frames: a bad length is faulty at once
abbrev pub at_rest : Front → List ℕ → List Ask → Settling
at_rest (Whole body_len) rest asks = waiting rest asks
at_rest (Bad announced) rest asks = stopped BadFrame asks
at_rest More rest asks = waiting rest asks

-- these were settled before
abbrev pub onto : List Settled → Settling → Settling
onto done later = record later { settled = done ++ later.settled }

-- a frame, and then what follows it
abbrev pub after_verdict : Verdict → (List Ask → Settling) → List Ask → Settling
after_verdict (Settles one left) later asks = onto (one ∷ []) (later left)
after_verdict (Stops fault) later asks = stopped fault asks

-- frame after frame, and then what follows the last
abbrev pub settle : List (List ℕ) → (List Ask → Settling) → List Ask → Settling
settle [] later asks = later asks
settle (body ∷ bodies) later asks = after_verdict (verdict body asks) (settle bodies later) asks

-- the frames of a stream that was split, and then its rest
abbrev pub settle_split : Split → List Ask → Settling
settle_split parts asks =
    settle parts.bodies (at_rest (front longest_body parts.rest) parts.rest) asks

-- what the bytes of a stream settle, where these asks are unanswered
unfoldable pub settling : List ℕ → List Ask → Settling
settling bytes asks = settle_split (split longest_body bytes) asks
