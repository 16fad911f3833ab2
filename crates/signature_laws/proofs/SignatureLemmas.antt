-- An answer of the signer is traced to the body that it answers, this to the message that was put, and this to its ask.
use Rattle.std.proofs.Common.{◌≡◌, ◌==◌, inl, inr, ℕ, ◌||◌, if◌then◌else◌, Bool, true, false, List, [], ◌∷◌, ◌++◌, map, Option, Some, None, Result, Ok, Err, refl, sym, ap, subst}
use Rattle.std.specs.Option.{is_some}
use Rattle.world_ports.specs.declared.Moment.{Moment}
use Rattle.child_msg.specs.ChildFrames.{ToChildFits, to_child_body}
use Rattle.child_msg.specs.Messages.{Denied, False, FromChildMessage, Granted, Hello, Refused, Signed, Signing, ToChildMessage, True}
use Rattle.child_msg.proofs.PrintedLemmas.{to_child_of-to_child_body}
use Rattle.helper_core.specs.Laws.{AreAnswers, IsAnswerBy}
use Rattle.helper_core.specs.Routes.{Route, Answered, HandedOn, counted, reply_message, signed_under, verdict_under}
use Rattle.helper_core.specs.declared.asked.Asked.TheVariants as asked
use Rattle.key_wire.specs.declared.fault.KeyFault.{KeyFault}
use Rattle.signer_keys.specs.Answers.{route_of, route_to}
use Rattle.signer_keys.specs.declared.types.KeyType.{KeyType}
use Rattle.signer_keys.specs.declared.verifying.Verdict.{Verdict}
use Rattle.signer_keys.specs.declared.verifying.Verdict.TheVariants as verdict
use Rattle.signer_keys.specs.Signing.{signature_for, signed_by}
use Rattle.signer_keys.specs.Types.{type_of}
use Rattle.signer_keys.specs.Verifying.{verdict_of, verifying_route}
use Rattle.agent_model.specs.Actions.{Asked, Asking}
use Rattle.agent_model.specs.Errands.{binding_of}
use Rattle.agent_model.specs.Events.{Timed}
use Rattle.agent_model.specs.Runs.{Stamped, history, run}
use Rattle.agent_model.specs.State.{Settings, State, first_state}
use Rattle.agent_model.specs.Step.{step}
use Rattle.agent_laws.specs.History.{onto}
use Rattle.agent_laws.specs.Puts.{ArePut, IsMessage, asks, messages_of, none, passes, signs, verifies}
use Rattle.agent_laws.proofs.HistoryLemmas.{first-puts}
use Rattle.signature_laws.specs.Lives.{IsForBinding}
use Rattle.signature_laws.specs.Signatures.{AllFit, AreBySigner, IsIn, IsOfItsAsk, IsSignatureFor, hands_on, refuses, request_with}
use Rattle.signature_laws.specs.Signatures as said

-- ---- among lists

pub in-behind : {A : Type 0} (one : A) (some more : List A) → IsIn one more → IsIn one (some ++ more)
in-behind one [] more there = there
in-behind one (first ∷ some) more there = inr (in-behind one some more there)

-- what is put behind a place is put in the whole
in-whole : (state : State) (before life : List Timed) (message : ToChildMessage)
    → IsIn message (messages_of (run state before) life) → IsIn message (messages_of state (before ++ life))
in-whole state [] life message there = there
in-whole state (timed ∷ before) life message there =
    in-behind message (step state timed.moment timed.event).put (messages_of (step state timed.moment timed.event).state (before ++ life))
    (in-whole (step state timed.moment timed.event).state before life message there)

-- ---- from a message to its ask

record HasAsk (past later : List Stamped) (message : ToChildMessage) : Type 0 where
  earlier : List Stamped
  moment : Moment
  asking : Asking
  rest : List Stamped
  told : later ≡ earlier ++ record { moment = moment; action = Asked asking } ∷ rest
  is : IsMessage (onto past earlier) asking message

has-ask : {past later : List Stamped} {messages : List ToChildMessage} (message : ToChildMessage)
    → ArePut past later messages → IsIn message messages → HasAsk past later message
has-ask message (none past) there = absurd there
has-ask message (asks past moment asking rest first others is size put) (inl same) = record {
  earlier = [];
  moment = moment;
  asking = asking;
  rest = rest;
  told = refl;
  is = subst (IsMessage past asking) same is;
}
has-ask message (asks past moment asking rest first others is size put) (inr there) =
    let found = has-ask message put there in
    record {
      earlier = record { moment = moment; action = Asked asking } ∷ found.earlier;
      moment = found.moment;
      asking = found.asking;
      rest = found.rest;
      told = ap (λ (l : List Stamped). record { moment = moment; action = Asked asking } ∷ l) found.told;
      is = found.is;
    }
has-ask message (passes past one rest others never put) there =
    let found = has-ask message put there in
    record {
      earlier = one ∷ found.earlier;
      moment = found.moment;
      asking = found.asking;
      rest = found.rest;
      told = ap (λ (l : List Stamped). one ∷ l) found.told;
      is = found.is;
    }

-- ---- from an answer to its message

record HasMessage (messages : List ToChildMessage) (answer : FromChildMessage) : Type 0 where
  message : ToChildMessage
  there : IsIn message messages
  is : IsAnswerBy (route_to (Ok message)) answer

pub routed : (message : ToChildMessage) → ToChildFits message → route_of (to_child_body message) ≡ route_to (Ok message)
unfolding route_of
routed message fits = ap route_to (to_child_of-to_child_body message fits)

has-message : (messages : List ToChildMessage) (answers : List FromChildMessage) (answer : FromChildMessage)
    → AllFit messages → AreAnswers route_of (map to_child_body messages) answers → IsIn answer answers
    → HasMessage messages answer
has-message messages [] answer fit are there = absurd there
has-message [] (first ∷ answers) answer fit are there = absurd are
has-message (message ∷ messages) (first ∷ answers) answer fit are (inl same) = record {
  message = message;
  there = inl refl;
  is = subst (IsAnswerBy (route_to (Ok message))) same (subst (λ (r : Route). IsAnswerBy r first) (routed message fit.0) are.0);
}
has-message (message ∷ messages) (first ∷ answers) answer fit are (inr there) =
    let found = has-message messages answers answer fit.1 are.1 there in
    record { message = found.message; there = inr found.there; is = found.is }

-- ---- what is answered to a request to sign

by-signature : (request : Signing) (made : Result (List ℕ) KeyFault) (answer : FromChildMessage)
    → signature_for request ≡ made → answer ≡ signed_by request.ask made → IsSignatureFor request answer
by-signature request (Ok text) answer is same = subst (IsSignatureFor request) (sym same) (said.signs text is)
by-signature request (Err fault) answer is same = subst (IsSignatureFor request) (sym same) (refuses fault is)

by-types : (request : Signing) (blob private : Option KeyType) (answer : FromChildMessage)
    → type_of request.blob ≡ blob → type_of request.private ≡ private
    → IsAnswerBy (if is_some blob || is_some private then Answered (signed_by request.ask (signature_for request)) else HandedOn (asked.Signature request.ask)) answer
    → IsSignatureFor request answer
by-types request (Some key) private answer of_blob of_private is = by-signature request (signature_for request) answer refl is
by-types request None (Some key) answer of_blob of_private is = by-signature request (signature_for request) answer refl is
by-types request None None answer of_blob of_private is =
    subst (IsSignatureFor request) (sym is.1) (hands_on is.0 of_blob of_private)

-- ---- which ask it is

-- the answer is to a signature: it is one, or a refusal
abbrev IsAbout : ℕ → FromChildMessage → Type 0
IsAbout ask (Signed number text) = number ≡ ask
IsAbout ask (Refused number) = number ≡ ask
IsAbout ask other = ⊥

about-either : (number ask : ℕ) (text : List ℕ) (is : Bool)
    → IsAbout ask (if is then Signed number text else Refused number) → number ≡ ask
about-either number ask text true about = about
about-either number ask text false about = about

about-under : (number ask : ℕ) (reply : Option FromChildMessage) → IsAbout ask (signed_under number reply) → number ≡ ask
about-under number ask None about = about
about-under number ask (Some (Signed other text)) about = about-either number ask text (other == number) about
about-under number ask (Some (Hello job ticket)) about = about
about-under number ask (Some (Refused other)) about = about
about-under number ask (Some (True other)) about = about
about-under number ask (Some (False other)) about = about
about-under number ask (Some (Granted job)) about = about
about-under number ask (Some (Denied job)) about = about

about-request : (request : Signing) (ask : ℕ) (answer : FromChildMessage) → IsSignatureFor request answer
    → IsAbout ask answer → request.ask ≡ ask
unfolding counted
about-request request ask answer (said.signs text is) about = about
about-request request ask answer (refuses fault is) about = about
about-request request ask answer (hands_on reply of_blob of_private) about =
    about-under request.ask ask (reply_message reply) about

never-either : (number ask : ℕ) (is : Bool) → IsAbout ask (if is then True number else False number) → ⊥
never-either number ask true about = about
never-either number ask false about = about

never-under : (number ask : ℕ) (reply : Option FromChildMessage) → IsAbout ask (verdict_under number reply) → ⊥
never-under number ask None about = about
never-under number ask (Some (True other)) about = never-either number ask (other == number) about
never-under number ask (Some (Hello job ticket)) about = about
never-under number ask (Some (Signed other text)) about = about
never-under number ask (Some (Refused other)) about = about
never-under number ask (Some (False other)) about = about
never-under number ask (Some (Granted job)) about = about
never-under number ask (Some (Denied job)) about = about

-- a verification is answered by no signature, and by no refusal of one
never-verdict : (judged : Verdict) (number ask : ℕ) (answer : FromChildMessage)
    → IsAnswerBy (verifying_route judged number) answer → IsAbout ask answer → ⊥
unfolding counted
never-verdict verdict.Right number ask answer is about = subst (IsAbout ask) is about
never-verdict verdict.Wrong number ask answer is about = subst (IsAbout ask) is about
never-verdict verdict.Elsewhere number ask answer is about =
    never-under number ask (reply_message is.0) (subst (IsAbout ask) is.1 about)

-- ---- the law

by-message : (earlier : List Stamped) (moment : Moment) (asking : Asking) (later : List Stamped) (actions : List Stamped)
    (message : ToChildMessage) (ask : ℕ) (answer : FromChildMessage)
    → actions ≡ earlier ++ record { moment = moment; action = Asked asking } ∷ later
    → IsMessage (onto [] earlier) asking message → IsAnswerBy (route_to (Ok message)) answer → IsAbout ask answer
    → IsOfItsAsk actions ask answer
by-message earlier moment asking later actions message ask answer told (signs signing added purpose key) is about =
    let request : Signing = request_with added signing asking.ask in
    let made : IsSignatureFor request answer = by-types request (type_of request.blob) (type_of request.private) answer refl refl is in
    let number : asking.ask ≡ ask = about-request request ask answer made about in
    record {
      earlier = earlier;
      moment = moment;
      asking = asking;
      later = later;
      told = told;
      number = number;
      signing = signing;
      purpose = purpose;
      added = added;
      key = key;
      is = subst (λ (n : ℕ). IsSignatureFor (request_with added signing n) answer) number made;
    }
by-message earlier moment asking later actions message ask answer told (verifies bind when requesting before purpose past port read) is about =
    absurd (never-verdict (verdict_of bind.host_key bind.session bind.signature) asking.ask ask answer is about)

-- what is put in these events counts, and the answers are to messages that are among it
pub of-put : (settings : Settings) (events : List Timed) (messages : List ToChildMessage) (answers : List FromChildMessage) (ask : ℕ) (answer : FromChildMessage)
    → ((message : ToChildMessage) → IsIn message messages → IsIn message (messages_of (first_state settings) events))
    → AreBySigner messages answers → IsIn answer answers → IsAbout ask answer
    → IsOfItsAsk (history (first_state settings) events) ask answer
of-put settings events messages answers ask answer among by there about =
    let found = has-message messages answers answer by.fit by.each there in
    let put = has-ask found.message (first-puts settings events).messages (among found.message found.there) in
    by-message put.earlier put.moment put.asking put.rest (history (first_state settings) events) found.message ask answer put.told
    put.is found.is about

pub of-ask : (settings : Settings) (before life : List Timed) (answers : List FromChildMessage) (ask : ℕ) (answer : FromChildMessage)
    → AreBySigner (messages_of (run (first_state settings) before) life) answers → IsIn answer answers → IsAbout ask answer
    → IsOfItsAsk (history (first_state settings) (before ++ life)) ask answer
of-ask settings before life answers ask answer by there about =
    let state : State = first_state settings in
    of-put settings (before ++ life) (messages_of (run state before) life) answers ask answer (in-whole state before life) by there about

-- ---- the answers to verifications

-- the answer is to a verification
abbrev IsJudging : ℕ → FromChildMessage → Type 0
IsJudging ask (True number) = number ≡ ask
IsJudging ask (False number) = number ≡ ask
IsJudging ask other = ⊥

unjudged-either : (number ask : ℕ) (text : List ℕ) (is : Bool)
    → IsJudging ask (if is then Signed number text else Refused number) → ⊥
unjudged-either number ask text true judging = judging
unjudged-either number ask text false judging = judging

unjudged-under : (number ask : ℕ) (reply : Option FromChildMessage) → IsJudging ask (signed_under number reply) → ⊥
unjudged-under number ask None judging = judging
unjudged-under number ask (Some (Signed other text)) judging = unjudged-either number ask text (other == number) judging
unjudged-under number ask (Some (Hello job ticket)) judging = judging
unjudged-under number ask (Some (Refused other)) judging = judging
unjudged-under number ask (Some (True other)) judging = judging
unjudged-under number ask (Some (False other)) judging = judging
unjudged-under number ask (Some (Granted job)) judging = judging
unjudged-under number ask (Some (Denied job)) judging = judging

-- a request to sign has no such answer
unjudged : (request : Signing) (ask : ℕ) (answer : FromChildMessage) → IsSignatureFor request answer
    → IsJudging ask answer → ⊥
unfolding counted
unjudged request ask answer (said.signs text is) judging = judging
unjudged request ask answer (refuses fault is) judging = judging
unjudged request ask answer (hands_on reply of_blob of_private) judging =
    unjudged-under request.ask ask (reply_message reply) judging

judging-either : (number ask : ℕ) (is : Bool) → IsJudging ask (if is then True number else False number) → number ≡ ask
judging-either number ask true judging = judging
judging-either number ask false judging = judging

judging-under : (number ask : ℕ) (reply : Option FromChildMessage) → IsJudging ask (verdict_under number reply) → number ≡ ask
judging-under number ask None judging = judging
judging-under number ask (Some (True other)) judging = judging-either number ask (other == number) judging
judging-under number ask (Some (Hello job ticket)) judging = judging
judging-under number ask (Some (Signed other text)) judging = judging
judging-under number ask (Some (Refused other)) judging = judging
judging-under number ask (Some (False other)) judging = judging
judging-under number ask (Some (Granted job)) judging = judging
judging-under number ask (Some (Denied job)) judging = judging

-- the answer to a verification has its number
judging-verdict : (judged : Verdict) (number ask : ℕ) (answer : FromChildMessage)
    → IsAnswerBy (verifying_route judged number) answer → IsJudging ask answer → number ≡ ask
unfolding counted
judging-verdict verdict.Right number ask answer is judging = subst (IsJudging ask) is judging
judging-verdict verdict.Wrong number ask answer is judging = subst (IsJudging ask) is judging
judging-verdict verdict.Elsewhere number ask answer is judging =
    judging-under number ask (reply_message is.0) (subst (IsJudging ask) is.1 judging)

binding-by : (earlier : List Stamped) (moment : Moment) (asking : Asking) (later : List Stamped) (actions : List Stamped)
    (message : ToChildMessage) (ask : ℕ) (answer : FromChildMessage)
    → actions ≡ earlier ++ record { moment = moment; action = Asked asking } ∷ later
    → IsMessage (onto [] earlier) asking message → IsAnswerBy (route_to (Ok message)) answer → IsJudging ask answer
    → IsForBinding actions ask
binding-by earlier moment asking later actions message ask answer told (signs signing added purpose key) is judging =
    let request : Signing = request_with added signing asking.ask in
    let made : IsSignatureFor request answer = by-types request (type_of request.blob) (type_of request.private) answer refl refl is in
    absurd (unjudged request ask answer made judging)
binding-by earlier moment asking later actions message ask answer told (verifies bind when requesting before purpose past port read) is judging = record {
  earlier = earlier;
  moment = moment;
  asking = asking;
  later = later;
  told = told;
  number = judging-verdict (verdict_of bind.host_key bind.session bind.signature) asking.ask ask answer is judging;
  binding = binding_of bind;
  purpose = purpose;
}

pub binding-of-put : (settings : Settings) (events : List Timed) (messages : List ToChildMessage) (answers : List FromChildMessage) (ask : ℕ) (answer : FromChildMessage)
    → ((message : ToChildMessage) → IsIn message messages → IsIn message (messages_of (first_state settings) events))
    → AreBySigner messages answers → IsIn answer answers → IsJudging ask answer
    → IsForBinding (history (first_state settings) events) ask
binding-of-put settings events messages answers ask answer among by there judging =
    let found = has-message messages answers answer by.fit by.each there in
    let put = has-ask found.message (first-puts settings events).messages (among found.message found.there) in
    binding-by put.earlier put.moment put.asking put.rest (history (first_state settings) events) found.message ask answer put.told
    put.is found.is judging
