-- An answer that the helper's stream gives an ask stands in a frame of it.
use Rattle.std.proofs.Common.{◌≡◌, inl, inr, ℕ, ◌==◌, if◌then◌else◌, Bool, true, false, List, [], ◌∷◌, ◌++◌, Option, Some, None, Result, Ok, Err, refl, sym, ap, ◌∙◌, arith}
use Rattle.std.proofs.lemmas.Bool.Decides.{nat_tests}
use Rattle.wire_text.specs.Bounds.{longest_body}
use Rattle.wire_text.specs.Frames.{Bad, Front, More, Whole, front, split}
use Rattle.child_msg.specs.declared.fault.ChildFault.{ChildFault}
use Rattle.child_msg.specs.Messages.{Denied, False, FromChildMessage, Granted, Hello, Refused, Signed, True}
use Rattle.child_msg.specs.Reading.{from_child_of}
use Rattle.helper_link.specs.declared.answer.Answer.{Answer}
use Rattle.helper_link.specs.declared.answer.Answer.TheVariants as answer
use Rattle.helper_link.specs.declared.answer.Settled.{Settled}
use Rattle.helper_link.specs.declared.ask.Ask.{Ask}
use Rattle.helper_link.specs.declared.ask.AskKind.{AskKind}
use Rattle.helper_link.specs.declared.ask.AskKind.TheVariants.{Signing, Verifying}
use Rattle.helper_link.specs.declared.fault.LinkFault.{LinkFault}
use Rattle.helper_link.specs.declared.fault.LinkFault.TheVariants.{WrongKind}
use Rattle.helper_link.specs.HelperLink.{HelperLink}
use Rattle.helper_link.specs.Settling.{Settles, Settling as Settlement, Stops, after_verdict, answer_found, at_rest, find_ask, reading_verdict, remove_ask, same_kind, settle, settled_ask, settling, verdict}
use Rattle.helper_link.specs.Telling.{telling}
use Rattle.agent_model.specs.Fates.{Fails, Fate, Gets, Unanswered, fault_fate, or_later, settled_fate}
use Rattle.agent_laws.specs.Answered.{said_fate}
use Rattle.signature_laws.specs.Signatures.{IsIn}

-- the helper's message by which an ask gets an answer
abbrev pub message_for : ℕ → Answer → FromChildMessage
message_for ask (answer.Signed text) = Signed ask text
message_for ask answer.Refused = Refused ask
message_for ask answer.True = True ask
message_for ask answer.False = False ask

-- one of the bodies is this message
pub record HasBody (bodies : List (List ℕ)) (message : FromChildMessage) : Type 0 where
  pub body : List ℕ
  pub there : IsIn body bodies
  pub read : from_child_of body ≡ Ok message

module _ (ask : ℕ) (given : Answer) (body : List ℕ) (bodies : List (List ℕ)) where
  by-test : (number : ℕ) (one : Answer) (rest : List Settled) → from_child_of body ≡ Ok (message_for number one)
      → (is : Bool) → (number == ask) ≡ is → (if is then Gets one else settled_fate ask rest) ≡ Gets given
      → (settled_fate ask rest ≡ Gets given → HasBody bodies (message_for ask given))
      → HasBody (body ∷ bodies) (message_for ask given)
  by-test number one rest read true is gets later =
      let same : number ≡ ask = grind (arith, nat_tests) in
      let equal : one ≡ given = cc in
      record {
        body = body;
        there = inl refl;
        read = read ∙ (ap (λ (n : ℕ). Ok (message_for n one)) same ∙ ap (λ (a : Answer). Ok (message_for ask a)) equal);
      }
  by-test number one rest read false is gets later =
      let found = later gets in
      record { body = found.body; there = inr found.there; read = found.read }

  module _ (rest : List Ask → Settlement) (later : (left : List Ask) → settled_fate ask (rest left).settled ≡ Gets given → HasBody bodies (message_for ask given)) (asks : List Ask) where
    by-kind : (number asker : ℕ) (one : Answer) (is : Bool) → from_child_of body ≡ Ok (message_for number one)
        → settled_fate ask (after_verdict (if is then Settles (settled_ask number asker one) (remove_ask number asks) else Stops (WrongKind number)) rest asks).settled ≡ Gets given
        → HasBody (body ∷ bodies) (message_for ask given)
    by-kind number asker one true read gets =
        by-test number one (rest (remove_ask number asks)).settled read (number == ask) refl gets (later (remove_ask number asks))
    by-kind number asker one false read gets = absurd (cc)

    by-found : (kind : AskKind) (number : ℕ) (one : Answer) (found : Option Ask) → from_child_of body ≡ Ok (message_for number one)
        → settled_fate ask (after_verdict (answer_found kind number one found asks) rest asks).settled ≡ Gets given
        → HasBody (body ∷ bodies) (message_for ask given)
    by-found kind number one None read gets = absurd (cc)
    by-found kind number one (Some found) read gets =
        by-kind number found.asker one (same_kind kind found.kind) read gets

    by-read : (read : Result FromChildMessage ChildFault) → from_child_of body ≡ read
        → settled_fate ask (after_verdict (reading_verdict read asks) rest asks).settled ≡ Gets given
        → HasBody (body ∷ bodies) (message_for ask given)
    by-read (Err fault) is gets = absurd (cc)
    by-read (Ok (Hello job ticket)) is gets = absurd (cc)
    by-read (Ok (Signed number text)) is gets = by-found Signing number (answer.Signed text) (find_ask number asks) is gets
    by-read (Ok (Refused number)) is gets = by-found Signing number answer.Refused (find_ask number asks) is gets
    by-read (Ok (True number)) is gets = by-found Verifying number answer.True (find_ask number asks) is gets
    by-read (Ok (False number)) is gets = by-found Verifying number answer.False (find_ask number asks) is gets
    by-read (Ok (Granted job)) is gets = absurd (cc)
    by-read (Ok (Denied job)) is gets = absurd (cc)

settle-body : (ask : ℕ) (given : Answer) (bodies : List (List ℕ)) (later : List Ask → Settlement)
    → ((left : List Ask) → settled_fate ask (later left).settled ≡ Unanswered) → (asks : List Ask)
    → settled_fate ask (settle bodies later asks).settled ≡ Gets given → HasBody bodies (message_for ask given)
unfolding verdict
settle-body ask given [] later silent asks gets =
    let none : settled_fate ask (later asks).settled ≡ Unanswered = silent asks in
    let both : Unanswered ≡ Gets given = sym none ∙ gets in
    absurd (cc)
settle-body ask given (body ∷ bodies) later silent asks gets =
    by-read ask given body bodies (settle bodies later) (settle-body ask given bodies later silent) asks (from_child_of body) refl gets

-- nothing is settled behind the frames
rest-silent : (ask : ℕ) (front : Front) (rest : List ℕ) (left : List Ask) → settled_fate ask (at_rest front rest left).settled ≡ Unanswered
rest-silent ask (Whole body_len) rest left = refl
rest-silent ask (Bad announced) rest left = refl
rest-silent ask More rest left = refl

-- a fault gives no answer
not-by-fault : (given : Answer) (fate : Fate) (fault : Option LinkFault) → or_later fate (fault_fate fault) ≡ Gets given → fate ≡ Gets given
not-by-fault given Unanswered None gets = absurd (cc)
not-by-fault given Unanswered (Some fault) gets = absurd (cc)
not-by-fault given (Gets one) fault gets = gets
not-by-fault given Fails fault gets = absurd (cc)

pub said-body : (ask : ℕ) (given : Answer) (bytes : List ℕ) (link : HelperLink) → said_fate ask bytes link ≡ Gets given
    → HasBody (split longest_body (link.heard ++ bytes)).bodies (message_for ask given)
unfolding settling
said-body ask given bytes link gets =
    settle-body ask given (split longest_body (link.heard ++ bytes)).bodies
    (at_rest (front longest_body (split longest_body (link.heard ++ bytes)).rest) (split longest_body (link.heard ++ bytes)).rest)
    (rest-silent ask (front longest_body (split longest_body (link.heard ++ bytes)).rest) (split longest_body (link.heard ++ bytes)).rest)
    link.asks
    (not-by-fault given (settled_fate ask (telling bytes link).settled) (telling bytes link).fault gets)
