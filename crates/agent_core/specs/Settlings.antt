-- What the helper's answers and its loss are to the open ports (ours).
use Rattle.std.specs.Prelude.{◌≡◌, ℕ, ◌+◌, ◌≤◌, List, [], ◌∷◌, length, Option, Some, None, Result, Ok, Err, if◌then◌else◌}
use Rattle.std.specs.Str.{bytes_eq}
use Rattle.wire_text.specs.Bounds.{longest_body}
use Rattle.child_msg.specs.Messages.{Denied, False, FromChildMessage, Granted, Hello, Refused, Signed, True}
use Rattle.child_msg.specs.declared.fault.ChildFault.{ChildFault}
use Rattle.helper_link.specs.declared.answer.Answer.{Answer}
use Rattle.helper_link.specs.declared.answer.Answer.TheVariants as answer
use Rattle.helper_link.specs.declared.answer.Settled.{Settled}
use Rattle.agent_model.specs.Answers.{find_verification, prove, remove_verification}
use Rattle.agent_model.specs.Consents.{find_started}
use Rattle.agent_model.specs.Sound.{IsRight}
use Rattle.agent_model.specs.State.{Port, StartedJob, UnderWay, Verification, change_port, find_port}
use Rattle.under_way.specs.Parts.{IsFor}
use Rattle.world_ports.specs.declared.Job.{Job}
use Rattle.agent_model.specs.Verdicts.{HelperRefused, Refuses, Replies, Signature, SignatureWrong, Verdict, tell}

-- what an asker is told whose binding isn't noted
abbrev pub verdict_of : Answer → Verdict
verdict_of (answer.Signed signature) = Replies (Signature signature)
verdict_of answer.Refused = Refuses HelperRefused
verdict_of answer.True = Refuses SignatureWrong
verdict_of answer.False = Refuses SignatureWrong

-- what an asker's port becomes of an answer, by the verification that it asked for
abbrev pub told_with : Answer → Option Verification → Port → Port
told_with (answer.Signed signature) found port = tell (Replies (Signature signature)) port
told_with answer.Refused found port = tell (Refuses HelperRefused) port
told_with answer.True None port = tell (Refuses SignatureWrong) port
told_with answer.True (Some verification) port = prove verification port
told_with answer.False found port = tell (Refuses SignatureWrong) port

-- the askers of these answers are told, one after another
abbrev pub answered : List Settled → List Verification → List Port → List Port
answered [] verifications ports = ports
answered (one ∷ later) verifications ports = answered later (remove_verification one.ask verifications)
    (change_port one.asker (told_with one.answer (find_verification one.ask verifications)) ports)

-- the verifications that these answers leave
abbrev pub unanswered : List Settled → List Verification → List Verification
unanswered [] verifications = verifications
unanswered (one ∷ later) verifications = unanswered later (remove_verification one.ask verifications)

-- the binding of a verification is judged as it was when its ask was put, where its asker is open
abbrev pub IsProvable : Option Verification → Option Port → Type 0
IsProvable None port = Unit {0}
IsProvable (Some verification) None = Unit {0}
IsProvable (Some verification) (Some port) = IsRight verification port.chain

-- and of each answer, once those before it were told
abbrev pub AreProvable : List Settled → List Verification → List Port → Type 0
AreProvable [] verifications ports = Unit {0}
AreProvable (one ∷ later) verifications ports =
    IsProvable (find_verification one.ask verifications) (find_port one.asker ports)
    × AreProvable later (remove_verification one.ask verifications)
    (change_port one.asker (told_with one.answer (find_verification one.ask verifications)) ports)

-- the reply with a signature fits a message
abbrev pub IsShortAnswer : Answer → Type 0
IsShortAnswer (answer.Signed signature) = 5 + length signature ≤ longest_body
IsShortAnswer answer.Refused = Unit {0}
IsShortAnswer answer.True = Unit {0}
IsShortAnswer answer.False = Unit {0}

-- each answer of these is short enough for a client's reply
abbrev pub AreShortAnswers : List Settled → Type 0
AreShortAnswers [] = Unit {0}
AreShortAnswers (one ∷ later) = IsShortAnswer one.answer × AreShortAnswers later

-- ---- how a child process names itself

-- this job was started, and is the helper's, which is being started, or that of a confirmation that no child process came
-- for
pub record IsNamed (job : Job) (going : UnderWay) : Type 0 where
  pub one : StartedJob
  pub found : find_started job.number going.started ≡ Some one
  pub same : one.job ≡ job
  pub is_for : IsFor job.kind job.number going

-- the job whose ticket it is
abbrev pub ticket_of : Option StartedJob → List ℕ → Option Job
ticket_of None ticket = None
ticket_of (Some one) ticket = if bytes_eq one.ticket ticket then Some one.job else None

-- the started job that a first message names by its ticket
abbrev pub named_job : Result FromChildMessage ChildFault → UnderWay → Option Job
named_job (Ok (Hello job ticket)) under_way = ticket_of (find_started job under_way.started) ticket
named_job (Ok (Signed ask signature)) under_way = None
named_job (Ok (Refused ask)) under_way = None
named_job (Ok (True ask)) under_way = None
named_job (Ok (False ask)) under_way = None
named_job (Ok (Granted job)) under_way = None
named_job (Ok (Denied job)) under_way = None
named_job (Err fault) under_way = None
