-- Lemmas on specs/Proven.antt: each binding that is proved answers an ask that was put for it.
use Rattle.std.proofs.Common.{◌≡◌, ◌⊎◌, ℕ, ◌+◌, List, [], ◌∷◌, ◌++◌, refl, ap, arith, sym, subst, ◌∙◌, ◌==◌, append_assoc, Option, Some, None, Bool, true, false, cond, inl, inr}
use Rattle.std.proofs.lemmas.Bool.Decides.{nat_tests}
use Rattle.std.proofs.lemmas.List.{append-nil}
use Rattle.std.specs.Option.{option_or}
use Rattle.world_ports.specs.declared.Door.{Door}
use Rattle.world_ports.specs.declared.Moment.{Moment}
use Rattle.wire_text.specs.Frames.{front_body}
use Rattle.confirm_desk.specs.Confirmations.{Confirmation}
use Rattle.dest_rule.specs.declared.binding.Binding.{Binding}
use Rattle.helper_link.specs.Answered.{LeadTo, kind_answered}
use Rattle.helper_link.specs.HelperLink.{ask_of}
use Rattle.helper_link.specs.Settling.{find_ask, remove_ask}
use Rattle.helper_link.specs.Sound.{RiseTo}
use Rattle.helper_link.specs.Telling.{Telling, telling}
use Rattle.helper_link.specs.declared.answer.Answer.{Answer}
use Rattle.helper_link.specs.declared.answer.Answer.TheVariants as answer
use Rattle.helper_link.specs.declared.answer.Settled.{Settled}
use Rattle.helper_link.specs.declared.ask.Ask.{Ask}
use Rattle.helper_link.specs.declared.ask.AskKind.{AskKind}
use Rattle.helper_link.specs.declared.fault.LinkFault.{LinkFault}
use Rattle.helper_link.proofs.AnswerLemmas.{settling_leads}
use Rattle.helper_link.proofs.OrderLemmas.{find-push, remove_rises}
use Rattle.agent_model.specs.Actions.{Action, Answered, Asked, ForBinding, Lost, Outcome, Proved, Proving, Purpose, Work, acted, and_then, behind}
use Rattle.agent_model.specs.Answers.{Answering, answer_all, answer_asker, answer_by, answer_true, find_verification, lose_if, proved_where_open, remove_verification, with_answers}
use Rattle.agent_model.specs.Children.{changed}
use Rattle.agent_model.specs.Consents.{grant_concluded, signing_of, without_confirmation}
use Rattle.agent_model.specs.Dispatch.{Served}
use Rattle.agent_model.specs.Errands.{Errand, Signs, Verifies, asking_of, binding_of, blob_of, kind_of, noted_verification, purpose_of}
use Rattle.agent_model.specs.Events.{Happening, Tick, Timed}
use Rattle.agent_model.specs.Fates.{actions_of}
use Rattle.agent_model.specs.Grants.{IsAmong}
use Rattle.agent_model.specs.Sound.{IsJudged, IsTied}
use Rattle.agent_model.specs.State.{Port, Settings, State, Verification, find_port, first_state}
use Rattle.agent_model.specs.Step.{asker_at, attempts, concluded, handle, join, step, take_frame}
use Rattle.agent_model.specs.Time.{at_moment, time_passes}
use Rattle.agent_model.specs.Verdicts.{HelperRefused, Refuses, Replies, Signature, SignatureWrong, Verdict}
use Rattle.agent_model.proofs.ActionLemmas.{among-back, among-front}
use Rattle.agent_model.proofs.BindLemmas.{AreGiven}
use Rattle.agent_model.proofs.FatedLemmas.{first-tied, step-fated, tied-opened}
use Rattle.agent_model.proofs.GrantLemmas.{IsGranted, allowed, disallowed, grant-ends, unasked}
use Rattle.agent_model.proofs.JudgeLemmas.{find_verification-append, find_verification-apart, left_asks}
use Rattle.agent_model.proofs.JudgedLemmas.{keeps-quiet}
use Rattle.agent_model.proofs.JudgedRunLemmas.{first-judged, step-judged}
use Rattle.agent_model.proofs.MakeLemmas.{Makes, by_event, first, grants, loses, overs, serves, stays, tells}
use Rattle.agent_model.proofs.PortsLemmas.{found_number}
use Rattle.agent_model.proofs.ServeLemmas.{IsServed, answered, asked, raised, refused, serve-ends}
use Rattle.agent_model.proofs.SizeLemmas.{size_of}
use Rattle.agent_model.proofs.TiedLemmas.{tied-quiet}
use Rattle.agent_laws.proofs.MomentLemmas.{judged-brings, judged-moment}
use Rattle.agent_laws.specs.Proven.{AnswerTheirAsks, AnswersItsAsk, IsRightAnswer}

-- ---- actions behind actions

answer-append : (past some more : List Action) → AnswerTheirAsks past some
    → AnswerTheirAsks (past ++ some) more → AnswerTheirAsks past (some ++ more)
answer-append past [] more none later = subst (λ p. AnswerTheirAsks p more) (append-nil past) later
answer-append past (one ∷ some) more both later =
    (both.0, answer-append (past ++ one ∷ []) some more both.1 (subst (λ p. AnswerTheirAsks p more) (sym (append_assoc past (one ∷ []) some)) later))

-- the action behind others
pub answer-at : (past some : List Action) (action : Action) (more : List Action)
    → AnswerTheirAsks past (some ++ action ∷ more) → AnswersItsAsk (past ++ some) action
answer-at past [] action more all =
    subst (λ p. AnswersItsAsk p action) (sym (append-nil past)) all.0
answer-at past (one ∷ some) action more all =
    subst (λ p. AnswersItsAsk p action) (append_assoc past (one ∷ []) some) (answer-at (past ++ one ∷ []) some action more all.1)

-- ---- what was asked

-- the ask of this number was put by this client for this binding
abbrev WasAsked : List Action → ℕ → ℕ → Binding → Type 0
WasAsked past ask asker binding =
    (size : ℕ) × IsAmong (Asked (record { ask = ask; port = asker; purpose = ForBinding binding; size = size })) past

-- each verification that is unanswered was asked for
abbrev pub WereAsked : List Action → List Verification → List Ask → Type 0
WereAsked past verifications asks = (ask : ℕ) (what : Ask) (one : Verification) → find_verification ask verifications ≡ Some one
    → find_ask ask asks ≡ Some what → WasAsked past ask what.asker one.binding

asked-more : (past more : List Action) (verifications : List Verification) (asks : List Ask)
    → WereAsked past verifications asks → WereAsked (past ++ more) verifications asks
asked-more past more verifications asks were ask what one noted there =
    let was = were ask what one noted there in (was.0, among-front _ past more was.1)

-- one more ask is put, with an action that tells it
module _ (errand : Errand) (asker last : ℕ) where
  -- what is noted of it has its number and its binding
  of_new : (errand : Errand) (ask : ℕ) (one : Verification)
      → find_verification ask (noted_verification errand (last + 1)) ≡ Some one
      → (ask ≡ last + 1) × (purpose_of errand ≡ ForBinding one.binding)
  of_new (Signs key signing) ask one is = absurd (cc)
  of_new (Verifies bind is_new) ask one is = by_test (last + 1 == ask) refl is
    where
      new_one : Verification
      new_one = record { ask = last + 1; binding = binding_of bind; is_new = is_new }

      by_test : (same : Bool) → (last + 1 == ask) ≡ same → cond same (Some new_one) None ≡ Some one
          → (ask ≡ last + 1) × (ForBinding (binding_of bind) ≡ ForBinding one.binding)
      by_test true test some =
          let numbered : ask ≡ last + 1 = grind (arith, nat_tests) in
          let this : new_one ≡ one = cc in
          (numbered, ap (λ (v : Verification). ForBinding v.binding) this)
      by_test false test some = absurd (cc)

  module _ (past : List Action) (second : ℕ) (asks : List Ask) (verifications : List Verification) (rise : RiseTo 0 asks last) (given : AreGiven verifications last) (were : WereAsked past verifications asks) where
    abbrev new : Ask
    new = ask_of (last + 1) asker (kind_of errand) (blob_of errand) second (size_of errand (last + 1))

    abbrev noted : List Verification
    noted = noted_verification errand (last + 1)

    pushed : (ask : ℕ)
        → find_ask ask (asks ++ new ∷ []) ≡ cond (last + 1 == ask) (Some new) (find_ask ask asks)
    pushed ask = find-push ask 0 new asks last rise (omega arith)

    split : (ask : ℕ) (one : Verification)
        → find_verification ask (verifications ++ noted) ≡ Some one
        → (find_verification ask verifications ≡ Some one) ⊎ ((ask ≡ last + 1) × (purpose_of errand ≡ ForBinding one.binding))
    split ask one is = by_found (find_verification ask verifications) refl (sym (find_verification-append ask verifications noted) ∙ is)
      where
        by_found : (was : Option Verification) → find_verification ask verifications ≡ was
            → option_or was (find_verification ask noted) ≡ Some one
            → (find_verification ask verifications ≡ Some one) ⊎ ((ask ≡ last + 1) × (purpose_of errand ≡ ForBinding one.binding))
        by_found None was some = inr (of_new errand ask one some)
        by_found (Some first_one) was some = inl (was ∙ some)

    pub asked-put : (more : List Action) → IsAmong (Asked (asking_of errand asker (last + 1))) more
        → WereAsked (past ++ more) (verifications ++ noted) (asks ++ new ∷ [])
    asked-put more told ask what one noted_one there = by_test (last + 1 == ask) refl (sym (pushed ask) ∙ there) (split ask one noted_one)
      where
        by_test : (same : Bool) → (last + 1 == ask) ≡ same
            → cond same (Some new) (find_ask ask asks) ≡ Some what
            → (find_verification ask verifications ≡ Some one) ⊎ ((ask ≡ last + 1) × (purpose_of errand ≡ ForBinding one.binding))
            → WasAsked (past ++ more) ask what.asker one.binding
        by_test true test is (inl noted_before) =
            let numbered : last + 1 ≡ ask = grind (arith, nat_tests) in
            absurd (omega (arith, numbered, given ask one noted_before))
        by_test true test is (inr by) =
            let this : new ≡ what = cc in
            let who : asker ≡ what.asker = ap (λ (a : Ask). a.asker) this in
            let size = size_of errand (last + 1) in
            let action : Asked (asking_of errand asker (last + 1)) ≡ Asked (record { ask = ask; port = what.asker; purpose = ForBinding one.binding; size = size }) =
            ap (λ n. Asked (record { ask = n; port = asker; purpose = purpose_of errand; size = size })) (sym by.0)
            ∙ ap (λ n. Asked (record { ask = ask; port = n; purpose = purpose_of errand; size = size })) who
            ∙ ap (λ (p : Purpose). Asked (record { ask = ask; port = what.asker; purpose = p; size = size })) by.1 in
            (size, among-back _ past more (subst (λ (a : Action). IsAmong a more) action told))
        by_test false test is (inl noted_before) =
            let was = were ask what one noted_before is in (was.0, among-front _ past more was.1)
        by_test false test is (inr by) =
            let equal : (last + 1 == ask) ≡ true = grind (arith, nat_tests, by.0) in
            absurd (cc)

-- ---- one answer

-- what holds between two answers of a piece
record HoldsSo (past : List Action) (last : ℕ) (answering : Answering) (asks : List Ask) : Type 0 where
  rise : RiseTo 0 asks last
  right : AnswerTheirAsks past answering.actions
  were : WereAsked (past ++ answering.actions) answering.verifications asks

module _ (past : List Action) (last : ℕ) (one : Settled) (before : Answering) (asks : List Ask) (kind : AskKind) (blob : List ℕ) (put_at size : ℕ) (found : find_ask one.ask asks ≡ Some (ask_of one.ask one.asker kind blob put_at size)) (holds : HoldsSo past last before asks) where
  -- the others were asked for
  others : (more : List Action)
      → WereAsked (past ++ (before.actions ++ more)) (remove_verification one.ask before.verifications) (remove_ask one.ask asks)
  others more ask what verification noted there =
      let left = left_asks 0 last asks holds.rise one.ask ask what there in
      let was = holds.were ask what verification (sym (find_verification-apart ask one.ask before.verifications left.0) ∙ noted) left.1 in
      subst (λ (all : List Action). WasAsked all ask what.asker verification.binding) (append_assoc past before.actions more)
      (was.0, among-front _ (past ++ before.actions) more was.1)

  holds-told : (verdict : Verdict)
      → HoldsSo past last (answer_asker verdict one before) (remove_ask one.ask asks)
  holds-told verdict = record {
    rise = remove_rises one.ask 0 asks last holds.rise;
    right = answer-append past before.actions (Answered one ∷ []) holds.right (tt, tt);
    were = others (Answered one ∷ []);
  }

  module _ (right : one.answer ≡ answer.True) (verification : Verification) (noted : find_verification one.ask before.verifications ≡ Some verification) where
    proves-right : (opened : Option Port) → find_port one.asker before.ports ≡ opened
        → AnswerTheirAsks (past ++ before.actions) (Answered one ∷ proved_where_open opened verification)
    proves-right None is = (tt, tt)
    proves-right (Some port) is =
        let was = holds.were one.ask (ask_of one.ask one.asker kind blob put_at size) verification noted found in
        let numbered : port.number ≡ one.asker = found_number one.asker before.ports port is in
        let moved = subst (λ n. WasAsked (past ++ before.actions) one.ask n verification.binding) (sym numbered) was in (
          tt,
          (
            record {
              before = past ++ before.actions;
              settled = one;
              last = refl;
              right = right;
              size = moved.0;
              asked = moved.1;
            },
            tt,
          ),
        )

    holds-proved : HoldsSo past last (answer_true (Some verification) one before) (remove_ask one.ask asks)
    holds-proved =
        let opened : Option Port = find_port one.asker before.ports in
        record {
          rise = remove_rises one.ask 0 asks last holds.rise;
          right = answer-append past before.actions (Answered one ∷ proved_where_open opened verification) holds.right (proves-right opened refl);
          were = others (Answered one ∷ proved_where_open opened verification);
        }

  holds-true : one.answer ≡ answer.True → (noted : Option Verification)
      → find_verification one.ask before.verifications ≡ noted
      → HoldsSo past last (answer_true noted one before) (remove_ask one.ask asks)
  holds-true right None is = holds-told (Refuses SignatureWrong)
  holds-true right (Some verification) is = holds-proved right verification is

  holds-answer : (what : Answer) → one.answer ≡ what
      → HoldsSo past last (answer_by what one before) (remove_ask one.ask asks)
  holds-answer (answer.Signed signature) is = holds-told (Replies (Signature signature))
  holds-answer answer.Refused is = holds-told (Refuses HelperRefused)
  holds-answer answer.True is = holds-true is (find_verification one.ask before.verifications) refl
  holds-answer answer.False is = holds-told (Refuses SignatureWrong)

holds-answers : (past : List Action) (last : ℕ) (settled : List Settled) (before : Answering) (asks left : List Ask)
    → LeadTo settled asks left → HoldsSo past last before asks
    → HoldsSo past last (answer_all settled before) left
holds-answers past last [] before asks left leads holds =
    subst (HoldsSo past last before) (sym leads) holds
holds-answers past last (one ∷ later) before asks left leads holds =
    holds-answers past last later (answer_by one.answer one before) (remove_ask one.ask asks) left leads.1
    (holds-answer past last one before asks (kind_answered one.answer) leads.0.blob leads.0.put_at leads.0.size leads.0.found holds one.answer refl)

-- ---- events

-- what an event does behind the past
record Proves (past : List Action) (outcome : Outcome) : Type 0 where
  right : AnswerTheirAsks past outcome.actions
  were : WereAsked (past ++ outcome.actions) outcome.state.under_way.verifications outcome.state.under_way.link.asks

module _ (past : List Action) (piece : List ℕ) (state : State) (tied : IsTied state) (were : WereAsked past state.under_way.verifications state.under_way.link.asks) where
  abbrev read : Telling
  read = telling piece state.under_way.link

  abbrev start : Answering
  start =
      record { ports = state.ports; verifications = state.under_way.verifications; actions = [] }

  abbrev after : Answering
  after = answer_all read.settled start

  held : HoldsSo past state.under_way.link.last after read.link.asks
  held = holds-answers past state.under_way.link.last read.settled start state.under_way.link.asks read.link.asks
      (settling_leads (state.under_way.link.heard ++ piece) state.under_way.link.asks)
      record {
        rise = tied.order;
        right = tt;
        were = subst (λ p. WereAsked p state.under_way.verifications state.under_way.link.asks) (sym (append-nil past)) were;
      }

  proves-fault : (fault : Option LinkFault)
      → Proves past (and_then (acted after.actions (with_answers read.link after state)) (lose_if fault))
  proves-fault None = record {
    right = subst (AnswerTheirAsks past) (sym (append-nil after.actions)) held.right;
    were = subst (λ all. WereAsked (past ++ all) after.verifications read.link.asks) (sym (append-nil after.actions)) held.were;
  }
  proves-fault (Some fault) = record {
    right = answer-append past after.actions (Lost ∷ []) held.right (tt, tt);
    were = λ ask what one noted there. absurd (cc);
  }

-- a request proves nothing, and tells the ask that it puts
module _ (past : List Action) (body : List ℕ) (port : Port) (state changed_state : State) (tied : IsTied state) (given : AreGiven state.under_way.verifications state.under_way.link.last) (were : WereAsked past state.under_way.verifications state.under_way.link.asks) where
  proves-served : {served : Served}
      → IsServed (asker_at state.moment port) state.held state.under_way served
      → Proves past (concluded port.number body served changed_state)
  proves-served (answered reply kept going) = record { right = (tt, tt); were = asked-more past _ state.under_way.verifications state.under_way.link.asks were }
  proves-served (refused cause) = record { right = (tt, tt); were = asked-more past _ state.under_way.verifications state.under_way.link.asks were }
  proves-served (asked errand free right) = record {
    right = (tt, (tt, tt));
    were = asked-put errand port.number state.under_way.link.last past state.under_way.second state.under_way.link.asks state.under_way.verifications tied.order given were _ (inr (inl refl));
  }
  proves-served (raised key signing free) = record { right = (tt, (tt, tt)); were = asked-more past _ state.under_way.verifications state.under_way.link.asks were }

module _ (past : List Action) (confirmation : Confirmation) (state : State) (tied : IsTied state) (given : AreGiven state.under_way.verifications state.under_way.link.last) (were : WereAsked past state.under_way.verifications state.under_way.link.asks) (port : Port) where
  proves-granted : {work : Work}
      → IsGranted port.chain confirmation state.moment.wall state.held (without_confirmation confirmation.job state.under_way) work
      → Proves past (grant_concluded work confirmation state)
  proves-granted (disallowed never) = record { right = (tt, tt); were = asked-more past _ state.under_way.verifications state.under_way.link.asks were }
  proves-granted (unasked cause key may fault) = record { right = (tt, tt); were = asked-more past _ state.under_way.verifications state.under_way.link.asks were }
  proves-granted (allowed key may free) = record {
    right = (tt, (tt, tt));
    were = asked-put (Signs key (signing_of key confirmation)) confirmation.asker state.under_way.link.last past state.under_way.second state.under_way.link.asks state.under_way.verifications tied.order given were _ (inr (inl refl));
  }

proves-makes : {event : Happening} {old : State} {outcome : Outcome} (past : List Action)
    → Makes event old outcome → IsTied old
    → AreGiven old.under_way.verifications old.under_way.link.last
    → WereAsked past old.under_way.verifications old.under_way.link.asks → Proves past outcome
proves-makes past (stays state) tied given were = record { right = tt; were = asked-more past [] state.under_way.verifications state.under_way.link.asks were }
proves-makes {old = old} past (first {mid = mid} {outcome = outcome} quiet rest) tied given were =
    let keeps = keeps-quiet quiet tied.rising in
    let later = proves-makes past rest (tied-quiet quiet tied) (rw (keeps.last, keeps.verifications) given) (rw (keeps.asks, keeps.verifications) were) in
    record { right = later.right; were = later.were }
proves-makes past (serves body_len port state found door nothing owed own) tied given were =
    let body : List ℕ = front_body body_len port.heard in
    proves-served past body port state (changed port.number (take_frame body_len (attempts state.held.lock body)) state) tied given were (serve-ends (asker_at state.moment port) state.held state.under_way body)
proves-makes past (tells piece state) tied given were =
    proves-fault past piece state tied were (telling piece state.under_way.link).fault
proves-makes past (loses state) tied given were =
    record { right = (tt, tt); were = λ ask what one noted there. absurd (cc) }
proves-makes past (overs confirmation state there) tied given were = record { right = (tt, tt); were = asked-more past _ state.under_way.verifications state.under_way.link.asks were }
proves-makes past (grants confirmation port state there found) tied given were =
    proves-granted past confirmation state tied given were port (grant-ends port.chain confirmation state)

-- ---- runs

-- one thing, and then another
proves-in_turn : (past : List Action) (some more : Outcome) → Proves past some
    → Proves (past ++ some.actions) more → Proves past (behind some more)
proves-in_turn past some more one two = record {
  right = answer-append past some.actions more.actions one.right two.right;
  were = subst (λ all. WereAsked all more.state.under_way.verifications more.state.under_way.link.asks) (append_assoc past some.actions more.actions) two.were;
}

-- a moment proves nothing
proves-moment : (moment : Moment) (state : State) → IsTied state → IsJudged state
    → (past : List Action) → WereAsked past state.under_way.verifications state.under_way.link.asks
    → Proves past (time_passes moment state)
proves-moment moment state tied judged =
    judged-brings (λ s outcome. (past : List Action) → WereAsked past s.under_way.verifications s.under_way.link.asks → Proves past outcome) moment state tied judged
    (λ s past were. record { right = tt; were = asked-more past [] s.under_way.verifications s.under_way.link.asks were })
    (λ s at so past were. proves-makes {event = Tick} past (loses s) at so.given were)
    (λ one s there at so past were. proves-makes {event = Tick} past (overs one s there) at so.given were)
    (λ s first later one two past were. proves-in_turn past first later (one past were) (two (past ++ first.actions) (one past were).were))

proves-step : (past : List Action) (state : State) (moment : Moment) (event : Happening)
    → IsTied state → IsJudged state
    → WereAsked past state.under_way.verifications state.under_way.link.asks
    → Proves past (step state moment event)
proves-step past state moment event tied judged were =
    let opened : State = at_moment moment state in
    let before = proves-moment moment state tied judged past were in
    let done : List Action = past ++ (time_passes moment state).actions in
    let joins : (door : Door) → Proves done (join door opened) = λ door. record { right = tt; were = asked-more done [] opened.under_way.verifications opened.under_way.link.asks before.were } in
    let made = by_event (Proves done) event opened joins (λ outcome makes. proves-makes done makes (tied-opened moment state tied) (judged-moment moment state tied judged).given before.were) in
    let both = proves-in_turn past (time_passes moment state) (handle event opened) before made in
    record { right = both.right; were = both.were }

run-answers : (past : List Action) (state : State) (events : List Timed) → IsTied state
    → IsJudged state → WereAsked past state.under_way.verifications state.under_way.link.asks
    → AnswerTheirAsks past (actions_of state events)
run-answers past state [] tied judged were = tt
run-answers past state (timed ∷ later) tied judged were =
    let now = proves-step past state timed.moment timed.event tied judged were in
    let after_it = step state timed.moment timed.event in
    answer-append past after_it.actions (actions_of after_it.state later) now.right
    (run-answers (past ++ after_it.actions) after_it.state later (step-fated state timed.moment timed.event tied).tied
    (step-judged state timed.moment timed.event tied judged).judged now.were)

pub first-answers : (settings : Settings) (events : List Timed) (before later : List Action) (proving : Proving)
    → actions_of (first_state settings) events ≡ before ++ Proved proving ∷ later
    → IsRightAnswer before proving
first-answers settings events before later proving is =
    answer-at [] before (Proved proving) later
    (subst (AnswerTheirAsks []) is (run-answers [] (first_state settings) events (first-tied settings) (first-judged settings) (λ ask what one noted there. absurd (cc))))
