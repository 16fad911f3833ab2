-- Lemmas on specs/Answers.antt.
use Rattle.std.proofs.Common.{◌≡◌, ℕ, Bool, true, false, List, ◌++◌, Option, Some, None, Result, Ok, Err, refl, ap, sym, ◌∙◌, subst}
use Rattle.std.specs.Result.{result_ok}
use Rattle.child_msg.specs.ChildFrames.{from_child_body}
use Rattle.child_msg.specs.Messages.{FromChildMessage, ToChildMessage, Sign, Verify, Signing, Verification}
use Rattle.child_msg.specs.Reading.{to_child_of}
use Rattle.child_msg.specs.declared.fault.ChildFault.{ChildFault}
use Rattle.standin_core.specs.Answers.{IsAnswered, answer_of, answer_to, host_secret, is_signed_with, signed_with, verifying_answer}
use Rattle.standin_core.specs.Hosts.{Host}
use Rattle.standin_core.specs.Keys.{secret_of, tag_of}
use Rattle.standin_core.specs.Requests.{signing, verdict_of, verification}
use Rattle.wire_text.specs.Wire.{string}

-- a message's answer, and none to a body that is no message
pub answer_of-message : (hosts : List Host) (body : List ℕ) (message : ToChildMessage)
    → to_child_of body ≡ Ok message → answer_of hosts body ≡ answer_to hosts (Some message)
unfolding answer_of
answer_of-message hosts body message is =
    ap (λ (r : Result ToChildMessage ChildFault). answer_to hosts (result_ok r)) is

pub answer_of-none : (hosts : List Host) (body : List ℕ) (fault : ChildFault)
    → to_child_of body ≡ Err fault → answer_of hosts body ≡ None
unfolding answer_of
answer_of-none hosts body fault is =
    ap (λ (r : Result ToChildMessage ChildFault). answer_to hosts (result_ok r)) is

-- only the number and the message matter
signed_as : (secret : Option (List ℕ)) (request : Signing)
    → signed_with secret (signing request.ask request.message) ≡ signed_with secret request
signed_as None request = refl
signed_as (Some secret) request = refl

-- only the signature and the session identifier matter
verified_as : (secret : Option (List ℕ)) (request : Verification)
    → is_signed_with secret (verification request.signature request.session) ≡ is_signed_with secret request
verified_as None request = refl
verified_as (Some secret) request = refl

-- the frame that was appended
appended : (answer : FromChildMessage) (given : Option FromChildMessage) (before now : List ℕ)
    → given ≡ Some answer → now ≡ before ++ string (from_child_body answer)
    → IsAnswered true given before now
appended answer given before now is frame =
    subst (λ (g : Option FromChildMessage). IsAnswered true g before now) (sym is) frame

pub nothing_appended : (given : Option FromChildMessage) (before now : List ℕ) → given ≡ None
    → now ≡ before → IsAnswered false given before now
nothing_appended given before now is same =
    subst (λ (g : Option FromChildMessage). IsAnswered false g before now) (sym is) same

pub answered-sign : (hosts : List Host) (body before now : List ℕ) (request : Signing)
    → to_child_of body ≡ Ok (Sign request)
    → now ≡ before ++ string (from_child_body (signed_with (secret_of request.private request.blob) (signing request.ask request.message)))
    → IsAnswered true (answer_of hosts body) before now
answered-sign hosts body before now request is frame =
    appended (signed_with (secret_of request.private request.blob) request) (answer_of hosts body) before now (answer_of-message hosts body (Sign request) is)
    (frame ∙ ap (λ (answer : FromChildMessage). before ++ string (from_child_body answer)) (signed_as (secret_of request.private request.blob) request))

pub answered-verify : (hosts : List Host) (body before now : List ℕ) (request : Verification) (is_signed : Bool)
    → to_child_of body ≡ Ok (Verify request)
    → is_signed ≡ is_signed_with (host_secret hosts (tag_of request.host_key)) (verification request.signature request.session)
    → now ≡ before ++ string (from_child_body (verdict_of request.ask is_signed))
    → IsAnswered true (answer_of hosts body) before now
answered-verify hosts body before now request is_signed is signed frame =
    appended (verifying_answer hosts request) (answer_of hosts body) before now (answer_of-message hosts body (Verify request) is)
    (frame ∙ ap (λ (b : Bool). before ++ string (from_child_body (verdict_of request.ask b)))
    (signed ∙ verified_as (host_secret hosts (tag_of request.host_key)) request))

-- ---- what an appended answer tells

pub no_answer : (good : Bool) (given : Option FromChildMessage) (before now : List ℕ)
    → IsAnswered good given before now → good ≡ false → given ≡ None
no_answer true (Some answer) before now is wrong = cc wrong
no_answer true None before now is wrong = absurd is
no_answer false (Some answer) before now is wrong = absurd is
no_answer false None before now is wrong = refl

-- an answer and its frame
pub record HasAnswer (given : Option FromChildMessage) (before now : List ℕ) : Type 0 where
  pub answer : FromChildMessage
  pub is : given ≡ Some answer
  pub frame : now ≡ before ++ string (from_child_body answer)

pub some_answer : (good : Bool) (given : Option FromChildMessage) (before now : List ℕ)
    → IsAnswered good given before now → good ≡ true → HasAnswer given before now
some_answer true (Some answer) before now is right =
    record { answer = answer; is = refl; frame = is }
some_answer true None before now is right = absurd is
some_answer false (Some answer) before now is right = absurd is
some_answer false None before now is right = cc right
