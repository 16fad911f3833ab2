-- What becomes of what a client waits for, where the helper answers and where it is lost.
use Rattle.std.proofs.Common.{◌≡◌, ◌≢◌, ℕ, List, [], ◌∷◌, ◌++◌, refl, ap, arith, sym, subst, ◌∙◌, ◌==◌, Option, Some, None, IsSome, Bool, true, false, inl, inr, if◌then◌else◌}
use Rattle.std.specs.Option.{option_map}
use Rattle.std.proofs.lemmas.Bool.{cases_eq}
use Rattle.std.proofs.lemmas.Bool.Decides.{nat_tests}
use Rattle.helper_link.specs.Answered.{IsUnanswered, LeadTo, kind_answered}
use Rattle.helper_link.specs.HelperLink.{ask_of, askers}
use Rattle.helper_link.specs.Settling.{find_ask, remove_ask}
use Rattle.helper_link.specs.Sound.{RiseTo}
use Rattle.helper_link.specs.declared.answer.Answer.{Answer}
use Rattle.helper_link.specs.declared.answer.Answer.TheVariants as answer
use Rattle.helper_link.specs.declared.answer.Settled.{Settled}
use Rattle.helper_link.specs.declared.ask.Ask.{Ask}
use Rattle.helper_link.proofs.OrderLemmas.{remove_rises}
use Rattle.agent_model.specs.Actions.{Action, Answered}
use Rattle.agent_model.specs.Answers.{Answering, answer_all, answer_asker, answer_by, answer_true, find_verification, prove, proved_where_open, remove_verification, tell_each}
use Rattle.agent_model.specs.Fates.{Fate, Fails, Gets, IsTold, Unanswered, answer_verdict, fate_in, fate_of, fate_verdict, or_later, settled_fate, times_answered, times_asked}
use Rattle.agent_model.specs.Sound.{AreNoted, AreTied}
use Rattle.agent_model.specs.State.{Nothing, OnAsk, Port, Verification, change_port, find_port}
use Rattle.agent_model.specs.Verdicts.{Awaits, HelperLost, HelperRefused, Refuses, Replies, Signature, SignatureWrong, Success, Verdict, tell, verdict_text, verdict_waits}
use Rattle.agent_model.proofs.JudgeLemmas.{noted-told}
use Rattle.agent_model.proofs.PortsLemmas.{find_port-apart, find_port-change_port}
use Rattle.agent_model.proofs.TieLemmas.{not_asker, tied-told}

-- ---- what a client is told

-- what another one is told changes nothing
pub told-apart : (number at : ℕ) (verdict : Verdict) (f : Port → Port) (ports : List Port)
    → ((p : Port) → (f p).number ≡ p.number) → number ≢ at → IsTold number verdict ports
    → IsTold number verdict (change_port at f ports)
told-apart number at verdict f ports keeps other told =
    record { port = told.port; found = find_port-apart number at f ports keeps other ∙ told.found; door = told.door; owed = told.owed; waits = told.waits }

-- the client itself is told more
pub told-here : (number : ℕ) (old new : Verdict) (f : Port → Port) (ports : List Port)
    → ((p : Port) → (f p).number ≡ p.number) → ((p : Port) → (f p).door ≡ p.door)
    → ((p : Port) → p.owed ≡ verdict_text old → (f p).owed ≡ verdict_text new)
    → ((p : Port) → p.waits ≡ verdict_waits old → (f p).waits ≡ verdict_waits new)
    → IsTold number old ports → IsTold number new (change_port number f ports)
told-here number old new f ports keeps doors owes waits told = record {
  port = f told.port;
  found = find_port-change_port number f ports keeps ∙ ap (option_map f) told.found;
  door = doors told.port ∙ told.door;
  owed = owes told.port told.owed;
  waits = waits told.port told.waits;
}

-- ---- what actions make of an ask

pub or_later-assoc : (one two three : Fate)
    → or_later one (or_later two three) ≡ or_later (or_later one two) three
or_later-assoc Unanswered two three = refl
or_later-assoc (Gets answer) two three = refl
or_later-assoc Fails two three = refl

pub fate-append : (ask : ℕ) (some more : List Action)
    → fate_of ask (some ++ more) ≡ or_later (fate_of ask some) (fate_of ask more)
fate-append ask [] more = refl
fate-append ask (action ∷ some) more =
    ap (or_later (fate_in ask action)) (fate-append ask some more) ∙ or_later-assoc (fate_in ask action) (fate_of ask some) (fate_of ask more)

-- an answer ends the waiting
pub answer-waits : (what : Answer) → verdict_waits (answer_verdict what) ≡ Nothing
answer-waits (answer.Signed signature) = refl
answer-waits answer.Refused = refl
answer-waits answer.True = refl
answer-waits answer.False = refl

-- ---- one answer

-- the asker alone is told, and what is done besides has nothing to do with asks
pub record AnswersAs (verdict : Verdict) (one : Settled) (before after : Answering) : Type 0 where
  pub change : Port → Port
  pub rest : List Action
  pub ports : after.ports ≡ change_port one.asker change before.ports
  pub actions : after.actions ≡ before.actions ++ Answered one ∷ rest
  pub number : (p : Port) → (change p).number ≡ p.number
  pub door : (p : Port) → (change p).door ≡ p.door
  pub owed : (p : Port) → (change p).owed ≡ p.owed ++ verdict_text verdict
  pub waits : (p : Port) → (change p).waits ≡ Nothing
  pub silent : (ask : ℕ)
      → (fate_of ask rest ≡ Unanswered) × (times_answered ask rest ≡ 0) × (times_asked ask rest ≡ 0)
  pub verifications : after.verifications ≡ remove_verification one.ask before.verifications

as_told : (verdict : Verdict) (one : Settled) (before : Answering) → verdict_waits verdict ≡ Nothing
    → AnswersAs verdict one before (answer_asker verdict one before)
as_told verdict one before nothing = record {
  change = tell verdict;
  rest = [];
  ports = refl;
  actions = refl;
  number = λ p. refl;
  door = λ p. refl;
  owed = λ p. refl;
  waits = λ p. nothing;
  silent = λ ask. (refl, refl, refl);
  verifications = refl;
}

-- what an asker is told where the signature of a binding is right: that it is bound, where one is noted
abbrev pub true_verdict : Option Verification → Verdict
true_verdict None = Refuses SignatureWrong
true_verdict (Some verification) = Replies Success

-- what an asker is told of an answer
abbrev pub told_verdict : Answer → Settled → Answering → Verdict
told_verdict (answer.Signed signature) one before = Replies (Signature signature)
told_verdict answer.Refused one before = Refuses HelperRefused
told_verdict answer.True one before = true_verdict (find_verification one.ask before.verifications)
told_verdict answer.False one before = Refuses SignatureWrong

as_true : (found : Option Verification) (one : Settled) (before : Answering)
    → AnswersAs (true_verdict found) one before (answer_true found one before)
as_true None one before = as_told (Refuses SignatureWrong) one before refl
as_true (Some verification) one before = record {
  change = prove verification;
  rest = proved_where_open (find_port one.asker before.ports) verification;
  ports = refl;
  actions = refl;
  number = λ p. refl;
  door = λ p. refl;
  owed = λ p. refl;
  waits = λ p. refl;
  silent = proved (find_port one.asker before.ports);
  verifications = refl;
}
  where
    proved : (found : Option Port) (ask : ℕ)
        → (fate_of ask (proved_where_open found verification) ≡ Unanswered) × (times_answered ask (proved_where_open found verification) ≡ 0) × (times_asked ask (proved_where_open found verification) ≡ 0)
    proved None ask = (refl, refl, refl)
    proved (Some port) ask = (refl, refl, refl)

pub answers_as : (what : Answer) (one : Settled) (before : Answering)
    → AnswersAs (told_verdict what one before) one before (answer_by what one before)
answers_as (answer.Signed signature) one before =
    as_told (Replies (Signature signature)) one before refl
answers_as answer.Refused one before = as_told (Refuses HelperRefused) one before refl
answers_as answer.True one before =
    as_true (find_verification one.ask before.verifications) one before
answers_as answer.False one before = as_told (Refuses SignatureWrong) one before refl

-- each ask to verify has its binding, so that what is told is what the helper answered
verdict-noted : (what : Answer) (one : Settled) (before : Answering) (asks : List Ask)
    → IsUnanswered one.ask one.asker (kind_answered what) asks → AreNoted before.verifications asks
    → told_verdict what one before ≡ answer_verdict what
verdict-noted (answer.Signed signature) one before asks found noted = refl
verdict-noted answer.Refused one before asks found noted = refl
verdict-noted answer.True one before asks found noted =
    by_noted (find_verification one.ask before.verifications)
    (noted one.ask one.asker found.blob found.put_at found.size found.found)
  where
    by_noted : (there : Option Verification) → IsSome there → true_verdict there ≡ Replies Success
    by_noted None some = absurd (cc)
    by_noted (Some verification) some = refl
verdict-noted answer.False one before asks found noted = refl

pub answers_noted : (one : Settled) (before : Answering) (asks : List Ask)
    → IsUnanswered one.ask one.asker (kind_answered one.answer) asks → AreNoted before.verifications asks
    → AnswersAs (answer_verdict one.answer) one before (answer_by one.answer one before)
answers_noted one before asks found noted =
    subst (λ verdict. AnswersAs verdict one before (answer_by one.answer one before))
    (verdict-noted one.answer one before asks found noted) (answers_as one.answer one before)

-- what is done at it for an ask
pub answer-fate : (ask : ℕ) (one : Settled) (before : Answering)
    → fate_of ask (answer_by one.answer one before).actions ≡ or_later (fate_of ask before.actions) (if one.ask == ask then Gets one.answer else Unanswered)
answer-fate ask one before =
    let told_as = answers_as one.answer one before in
    ap (fate_of ask) told_as.actions ∙ fate-append ask before.actions (Answered one ∷ told_as.rest)
    ∙ ap (λ later. or_later (fate_of ask before.actions) (or_later (fate_in ask (Answered one)) later)) (told_as.silent ask).0
    ∙ ap (or_later (fate_of ask before.actions)) (ends (if one.ask == ask then Gets one.answer else Unanswered))
  where
    ends : (fate : Fate) → or_later fate Unanswered ≡ fate
    ends Unanswered = refl
    ends (Gets answer) = refl
    ends Fails = refl

-- the first answer of several counts
pub settled-fates : (ask : ℕ) (settled : List Settled) (before : Answering)
    → fate_of ask (answer_all settled before).actions ≡ or_later (fate_of ask before.actions) (settled_fate ask settled)
settled-fates ask [] before = ends (fate_of ask before.actions)
  where
    ends : (fate : Fate) → fate ≡ or_later fate Unanswered
    ends Unanswered = refl
    ends (Gets answer) = refl
    ends Fails = refl
settled-fates ask (one ∷ later) before =
    settled-fates ask later (answer_by one.answer one before)
    ∙ ap (λ fate. or_later fate (settled_fate ask later)) (answer-fate ask one before)
    ∙ sym (or_later-assoc (fate_of ask before.actions) (if one.ask == ask then Gets one.answer else Unanswered) (settled_fate ask later))
    ∙ ap (or_later (fate_of ask before.actions)) (by_test (one.ask == ask))
  where
    by_test : (equal : Bool)
        → or_later (if equal then Gets one.answer else Unanswered) (settled_fate ask later) ≡ (if equal then Gets one.answer else settled_fate ask later)
    by_test true = refl
    by_test false = refl

-- ---- answers, one after another

module _ (low last : ℕ) where
  -- what an answer leaves
  pub one_answer : (one : Settled) (before : Answering) (asks : List Ask)
      → IsUnanswered one.ask one.asker (kind_answered one.answer) asks → RiseTo low asks last
      → AreTied before.ports asks
      → AreTied (answer_by one.answer one before).ports (remove_ask one.ask asks)
  one_answer one before asks found rise tied =
      let told_as = answers_as one.answer one before in
      subst (λ ports. AreTied ports (remove_ask one.ask asks)) (sym told_as.ports)
      (tied-told before.ports asks tied one.ask one.asker (kind_answered one.answer) told_as.change low last rise found told_as.number (λ p ask is. let no : Nothing ≡ OnAsk ask = sym (told_as.waits p) ∙ is in absurd (cc)))

  -- who waits is tied to the asks that are left
  pub tied-answers : (settled : List Settled) (before : Answering) (asks left : List Ask)
      → LeadTo settled asks left → RiseTo low asks last → AreTied before.ports asks
      → AreTied (answer_all settled before).ports left
  tied-answers [] before asks left leads rise tied = subst (AreTied before.ports) (sym leads) tied
  tied-answers (one ∷ later) before asks left leads rise tied =
      tied-answers later (answer_by one.answer one before) (remove_ask one.ask asks) left leads.1 (remove_rises one.ask low asks last rise) (one_answer one before asks leads.0 rise tied)

  -- the others have their bindings yet
  noted-left : (one : Settled) (before : Answering) (asks : List Ask) → RiseTo low asks last
      → AreNoted before.verifications asks
      → AreNoted (answer_by one.answer one before).verifications (remove_ask one.ask asks)
  noted-left one before asks rise noted =
      subst (λ all. AreNoted all (remove_ask one.ask asks)) (sym (answers_as one.answer one before).verifications)
      (noted-told low last asks rise one.ask before.verifications noted)

  pub noted-answers : (settled : List Settled) (before : Answering) (asks left : List Ask)
      → LeadTo settled asks left → RiseTo low asks last → AreNoted before.verifications asks
      → AreNoted (answer_all settled before).verifications left
  noted-answers [] before asks left leads rise noted = subst (AreNoted before.verifications) (sym leads) noted
  noted-answers (one ∷ later) before asks left leads rise noted =
      noted-answers later (answer_by one.answer one before) (remove_ask one.ask asks) left leads.1 (remove_rises one.ask low asks last rise) (noted-left one before asks rise noted)

  -- who doesn't wait is told nothing, and what came of its ask stays
  pub told-answers : (number ask : ℕ) (verdict : Verdict) (fate : Fate)
      → verdict_waits verdict ≡ Nothing → ((later : Fate) → or_later fate later ≡ fate)
      → (settled : List Settled) (before : Answering) (asks left : List Ask)
      → LeadTo settled asks left → RiseTo low asks last → AreTied before.ports asks
      → fate_of ask before.actions ≡ fate → IsTold number verdict before.ports
      → (fate_of ask (answer_all settled before).actions ≡ fate) × IsTold number verdict (answer_all settled before).ports
  told-answers number ask verdict fate nothing stays [] before asks left leads rise tied is told =
      (is, told)
  told-answers number ask verdict fate nothing stays (one ∷ later) before asks left leads rise tied is told =
      let told_as = answers_as one.answer one before in
      let other : number ≢ one.asker = not_asker before.ports asks tied number one.ask _ verdict leads.0.found told (λ waits. let no : Nothing ≡ OnAsk one.ask = sym nothing ∙ waits in absurd (cc)) in
      told-answers number ask verdict fate nothing stays later (answer_by one.answer one before) (remove_ask one.ask asks) left leads.1 (remove_rises one.ask low asks last rise) (one_answer one before asks leads.0 rise tied)
      (answer-fate ask one before ∙ ap (λ f. or_later f (if one.ask == ask then Gets one.answer else Unanswered)) is ∙ stays _)
      (subst (IsTold number verdict) (sym told_as.ports) (told-apart number one.asker verdict told_as.change before.ports told_as.number other told))

  -- who waits for an ask is told the first answer to it
  pub fate-answers : (number ask : ℕ) (settled : List Settled) (before : Answering) (asks left : List Ask)
      → LeadTo settled asks left → RiseTo low asks last → AreTied before.ports asks
      → AreNoted before.verifications asks
      → fate_of ask before.actions ≡ Unanswered → IsTold number (Awaits (OnAsk ask)) before.ports
      → IsTold number (fate_verdict (fate_of ask (answer_all settled before).actions) ask) (answer_all settled before).ports
  fate-answers number ask [] before asks left leads rise tied noted is told =
      subst (λ f. IsTold number (fate_verdict f ask) before.ports) (sym is) told
  fate-answers number ask (one ∷ later) before asks left leads rise tied noted is told = elim (cases_eq one.ask ask) [
    | inl same ↦
        (let waiting = tied.waits number ask told.port told.found told.waits in
        let asker : Some (ask_of one.ask one.asker (kind_answered one.answer) leads.0.blob leads.0.put_at leads.0.size) ≡ Some (ask_of ask number waiting.kind waiting.blob waiting.put_at waiting.size) = sym leads.0.found ∙ ap (λ n. find_ask n asks) same ∙ waiting.unanswered in
        let equal : ask_of one.ask one.asker (kind_answered one.answer) leads.0.blob leads.0.put_at leads.0.size ≡ ask_of ask number waiting.kind waiting.blob waiting.put_at waiting.size = cc in
        let who : one.asker ≡ number = ap (λ (a : Ask). a.asker) equal in
        let test : (one.ask == ask) ≡ true = grind (arith, nat_tests) in
        let gets : fate_of ask (answer_by one.answer one before).actions ≡ Gets one.answer = answer-fate ask one before ∙ ap (λ f. or_later f (if one.ask == ask then Gets one.answer else Unanswered)) is ∙ ap (λ b. if b then Gets one.answer else Unanswered) test in
        let now : IsTold number (answer_verdict one.answer) (answer_by one.answer one before).ports = subst (IsTold number (answer_verdict one.answer)) (ap (λ n. change_port n told_as.change before.ports) (sym who) ∙ sym told_as.ports)
        (told-here number (Awaits (OnAsk ask)) (answer_verdict one.answer) told_as.change before.ports told_as.number told_as.door (λ p none. told_as.owed p ∙ ap (λ bytes. bytes ++ verdict_text (answer_verdict one.answer)) none) (λ p waits. told_as.waits p ∙ sym (answer-waits one.answer)) told) in
        let end = told-answers number ask (answer_verdict one.answer) (Gets one.answer) (answer-waits one.answer) (λ f. refl) later (answer_by one.answer one before) (remove_ask one.ask asks) left leads.1 rises tied_on gets now in
        subst (λ f. IsTold number (fate_verdict f ask) (answer_all (one ∷ later) before).ports) (sym end.0) end.1)
    | inr differs ↦
        (let other : number ≢ one.asker = not_asker before.ports asks tied number one.ask _ (Awaits (OnAsk ask)) leads.0.found told (λ waits. let same : ask ≡ one.ask = cc in differs (sym same)) in
        let test : (one.ask == ask) ≡ false = grind (arith, nat_tests) in
        fate-answers number ask later (answer_by one.answer one before) (remove_ask one.ask asks) left leads.1 rises tied_on noted_on
        (answer-fate ask one before ∙ ap (λ f. or_later f (if one.ask == ask then Gets one.answer else Unanswered)) is ∙ ap (λ b. if b then Gets one.answer else Unanswered) test)
        (subst (IsTold number (Awaits (OnAsk ask))) (sym told_as.ports) (told-apart number one.asker (Awaits (OnAsk ask)) told_as.change before.ports told_as.number other told)))
  ]
    where
      told_as : AnswersAs (answer_verdict one.answer) one before (answer_by one.answer one before)
      told_as = answers_noted one before asks leads.0 noted

      noted_on : AreNoted (answer_by one.answer one before).verifications (remove_ask one.ask asks)
      noted_on = noted-left one before asks rise noted

      rises : RiseTo low (remove_ask one.ask asks) last
      rises = remove_rises one.ask low asks last rise

      tied_on : AreTied (answer_by one.answer one before).ports (remove_ask one.ask asks)
      tied_on = one_answer one before asks leads.0 rise tied

-- ---- the loss of the helper

first_ask : (one : Ask) (asks : List Ask)
    → (find_ask one.number (one ∷ asks) ≡ Some one) × (remove_ask one.number (one ∷ asks) ≡ asks)
first_ask one asks = (grind (arith, nat_tests), grind (arith, nat_tests))

-- one ask less
pub one_lost : (low last : ℕ) (one : Ask) (asks : List Ask) (ports : List Port)
    → RiseTo low (one ∷ asks) last → AreTied ports (one ∷ asks)
    → AreTied (change_port one.asker (tell (Refuses HelperLost)) ports) asks
one_lost low last one asks ports rise tied =
    subst (AreTied (change_port one.asker (tell (Refuses HelperLost)) ports)) (first_ask one asks).1
    (tied-told ports (one ∷ asks) tied one.number one.asker one.kind (tell (Refuses HelperLost)) low last rise record { blob = one.blob; put_at = one.put_at; size = one.size; found = (first_ask one asks).0 } (λ p. refl) (λ p ask is. absurd (cc)))

-- nobody waits any more
pub tied-lost : (low last : ℕ) (asks : List Ask) (ports : List Port) → RiseTo low asks last
    → AreTied ports asks → AreTied (tell_each (Refuses HelperLost) (askers asks) ports) []
tied-lost low last [] ports rise tied = tied
tied-lost low last (one ∷ asks) ports rise tied =
    tied-lost one.number last asks (change_port one.asker (tell (Refuses HelperLost)) ports) rise.1 (one_lost low last one asks ports rise tied)

-- who doesn't wait is told nothing
pub told-lost : (number low last : ℕ) (verdict : Verdict) (asks : List Ask) (ports : List Port)
    → verdict_waits verdict ≡ Nothing → RiseTo low asks last → AreTied ports asks
    → IsTold number verdict ports
    → IsTold number verdict (tell_each (Refuses HelperLost) (askers asks) ports)
told-lost number low last verdict [] ports nothing rise tied told = told
told-lost number low last verdict (one ∷ asks) ports nothing rise tied told =
    told-lost number one.number last verdict asks _ nothing rise.1 (one_lost low last one asks ports rise tied)
    (told-apart number one.asker verdict (tell (Refuses HelperLost)) ports (λ p. refl)
    (not_asker ports (one ∷ asks) tied number one.number one verdict (first_ask one asks).0 told (λ waits. let no : Nothing ≡ OnAsk one.number = sym nothing ∙ waits in absurd (cc))) told)

-- who waits is told so once
pub waits-lost : (number ask low last : ℕ) (asks : List Ask) (ports : List Port)
    → RiseTo low asks last → AreTied ports asks → IsTold number (Awaits (OnAsk ask)) ports
    → IsTold number (Refuses HelperLost) (tell_each (Refuses HelperLost) (askers asks) ports)
waits-lost number ask low last [] ports rise tied told =
    let waiting = tied.waits number ask told.port told.found told.waits in
    let no : None ≡ Some (ask_of ask number waiting.kind waiting.blob waiting.put_at waiting.size) = waiting.unanswered in
    absurd (cc)
waits-lost number ask low last (one ∷ asks) ports rise tied told = elim (cases_eq number one.asker) [
  | inl same ↦
      told-lost number one.number last (Refuses HelperLost) asks _ refl rise.1 (one_lost low last one asks ports rise tied)
      (subst (λ n. IsTold number (Refuses HelperLost) (change_port n (tell (Refuses HelperLost)) ports)) same
      (told-here number (Awaits (OnAsk ask)) (Refuses HelperLost) (tell (Refuses HelperLost)) ports (λ p. refl) (λ p. refl) (λ p none. ap (λ bytes. bytes ++ verdict_text (Refuses HelperLost)) none) (λ p waits. refl) told))
  | inr other ↦
      waits-lost number ask one.number last asks _ rise.1 (one_lost low last one asks ports rise tied)
      (told-apart number one.asker (Awaits (OnAsk ask)) (tell (Refuses HelperLost)) ports (λ p. refl) other told)
]
