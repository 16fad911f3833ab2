-- No ask is answered twice, and no number of an ask is given twice.
use Rattle.std.proofs.Common.{◌≡◌, ◌≢◌, ℕ, ◌+◌, ◌<◌, ◌≤◌, List, [], ◌∷◌, ◌++◌, refl, ap, arith, sym, ◌∙◌, ◌==◌, nat_lt, Option, Some, None, Bool, true, false, cond, if◌then◌else◌}
use Rattle.std.proofs.lemmas.Bool.Decides.{nat_tests}
use Rattle.std.proofs.lemmas.List.{append-nil}
use Rattle.std.proofs.lemmas.List.Sums.{sum_by-append, sum_by-cons}
use Rattle.wire_text.specs.Frames.{front_body}
use Rattle.world_ports.specs.declared.Moment.{Moment}
use Rattle.helper_link.specs.Answered.{IsUnanswered, LeadTo, kind_answered}
use Rattle.helper_link.specs.HelperLink.{HelperLink, ask_of}
use Rattle.helper_link.specs.Settling.{find_ask, remove_ask}
use Rattle.helper_link.specs.Sound.{RiseTo}
use Rattle.helper_link.specs.Telling.{telling}
use Rattle.helper_link.specs.declared.answer.Settled.{Settled}
use Rattle.helper_link.specs.declared.ask.Ask.{Ask}
use Rattle.helper_link.specs.declared.fault.LinkFault.{LinkFault}
use Rattle.helper_link.proofs.AnswerLemmas.{settling_leads}
use Rattle.helper_link.proofs.OrderLemmas.{find-push, find-remove, remove_rises}
use Rattle.confirm_desk.specs.Confirmations.{Confirmation}
use Rattle.dest_rule.specs.declared.binding.Binding.{Binding}
use Rattle.agent_model.specs.Consents.{signing_of}
use Rattle.agent_model.proofs.GrantLemmas.{IsGranted, allowed, disallowed, grant-ends, unasked}
use Rattle.agent_model.specs.Actions.{Action, Answered, Granted, Lost, Outcome, Requested, Work, acted, and_then, behind}
use Rattle.agent_model.specs.Answers.{Answering, answer_all, answer_by, lose_if, with_answers}
use Rattle.agent_model.specs.Dispatch.{Asker, Served}
use Rattle.agent_model.specs.Errands.{Errand, Signs, blob_of, kind_of, with_ask}
use Rattle.agent_model.specs.Events.{Happening, Timed}
use Rattle.agent_model.specs.Fates.{Fails, Fate, Gets, Unanswered, actions_of, answers_by, asks_by, fate_of, or_later, times_answered, times_asked}
use Rattle.agent_model.specs.KeyStates.{KeyState}
use Rattle.agent_model.specs.Runs.{run}
use Rattle.agent_model.specs.Sound.{IsTied}
use Rattle.agent_model.specs.State.{State, UnderWay}
use Rattle.agent_model.specs.Step.{asker_at, handle, step}
use Rattle.agent_model.specs.Time.{at_moment, taken_in, time_passes}
use Rattle.agent_model.proofs.FateLemmas.{answer-fate, answers_as, fate-append}
use Rattle.agent_model.proofs.FatedLemmas.{step-fated, tied-opened}
use Rattle.agent_model.proofs.PartBudgetLemmas.{one_or_none}
use Rattle.agent_model.proofs.TiedLemmas.{tied-quiet}
use Rattle.agent_model.proofs.MakeLemmas.{Makes, Quiet, alters, by_event, closes, first, goes_on, grants, links, loses, names, overs, same_asks, serves, stays, tells}
use Rattle.agent_model.proofs.ServeLemmas.{IsServed, answered, asked, raised, refused, serve-ends}
use Rattle.agent_model.proofs.TieLemmas.{ask_within}
use Rattle.agent_model.proofs.TimeLemmas.{time_passes-brings}
use Rattle.agent_model.proofs.NumberLemmas.{handle-grows, moment-grows}
use Rattle.agent_model.proofs.SizeLemmas.{size_of}

-- ---- what may still come of a number

-- 1 where the ask is unanswered
abbrev open_by : Option Ask → ℕ
open_by None = 0
open_by (Some one) = 1

-- 1 where no ask has the number yet
abbrev pub unused : ℕ → ℕ → ℕ
unused ask last = if nat_lt last ask then 1 else 0

-- how often the number can still be answered
abbrev pub answerable : ℕ → HelperLink → ℕ
answerable ask link = if nat_lt link.last ask then 1 else open_by (find_ask ask link.asks)

open_most : (found : Option Ask) → open_by found ≤ 1
open_most None = omega arith
open_most (Some one) = omega arith

pub answerable_most : (ask : ℕ) (link : HelperLink) → answerable ask link ≤ 1
answerable_most ask link =
    let most = open_most (find_ask ask link.asks) in
    grind (arith, nat_tests)

pub unused_most : (ask last : ℕ) → unused ask last ≤ 1
unused_most ask last = one_or_none (nat_lt last ask)

-- an event spends no more than that
pub record Spends (ask : ℕ) (old : HelperLink) (actions : List Action) (new : HelperLink) : Type 0 where
  pub answered : times_answered ask actions + answerable ask new ≤ answerable ask old
  pub asked : times_asked ask actions + unused ask new.last ≤ unused ask old.last

nothing_spent : (ask : ℕ) (old new : HelperLink) → new.asks ≡ old.asks → new.last ≡ old.last
    → Spends ask old [] new
nothing_spent ask old new asks last =
    rw (last, asks) record { answered = omega arith; asked = omega arith }

spent_in_turn : {ask : ℕ} {old mid new : HelperLink} {some more : List Action}
    → Spends ask old some mid → Spends ask mid more new → Spends ask old (some ++ more) new
spent_in_turn {ask} {some = some} {more = more} one two = record {
  answered = omega (arith, sum_by-append (answers_by ask) some more, one.answered, two.answered);
  asked = omega (arith, sum_by-append (asks_by ask) some more, one.asked, two.asked);
}

-- ---- answers

module _ (ask : ℕ) where
  -- one answer
  one_answered : (one : Settled) (before : Answering) (asks : List Ask) (low last : ℕ)
      → IsUnanswered one.ask one.asker (kind_answered one.answer) asks → RiseTo low asks last
      → times_answered ask (answer_by one.answer one before).actions + open_by (find_ask ask (remove_ask one.ask asks)) ≤ times_answered ask before.actions + open_by (find_ask ask asks)
  one_answered one before asks low last found rise =
      let told = answers_as one.answer one before in
      let times : times_answered ask (answer_by one.answer one before).actions ≡ times_answered ask before.actions + ((if one.ask == ask then 1 else 0) + times_answered ask told.rest) =
      ap (times_answered ask) told.actions ∙ sum_by-append (answers_by ask) before.actions (Answered one ∷ told.rest) ∙ ap (λ n. times_answered ask before.actions + n) (sum_by-cons (answers_by ask) (Answered one) told.rest) in
      let left : find_ask ask (remove_ask one.ask asks) ≡ cond (one.ask == ask) None (find_ask ask asks) = find-remove ask one.ask low asks last rise in
      omega (arith, times, (told.silent ask).1, ap open_by left, by_test (one.ask == ask) refl)
    where
      by_test : (is : Bool) → (one.ask == ask) ≡ is
          → (if is then 1 else 0) + open_by (cond is None (find_ask ask asks)) ≤ open_by (find_ask ask asks)
      by_test true is =
          let equal : one.ask ≡ ask = grind (arith, nat_tests) in
          omega (arith, ap open_by (ap (λ n. find_ask n asks) (sym equal) ∙ found.found))
      by_test false is = omega arith

  -- one after another
  all_answered : (settled : List Settled) (before : Answering) (asks left : List Ask) (low last : ℕ)
      → LeadTo settled asks left → RiseTo low asks last
      → (times_answered ask (answer_all settled before).actions + open_by (find_ask ask left) ≤ times_answered ask before.actions + open_by (find_ask ask asks)) × (times_asked ask (answer_all settled before).actions ≡ times_asked ask before.actions)
  all_answered [] before asks left low last leads rise =
      (omega (arith, ap (λ (all : List Ask). open_by (find_ask ask all)) leads), refl)
  all_answered (one ∷ later) before asks left low last leads rise =
      let told = answers_as one.answer one before in
      let rest = all_answered later (answer_by one.answer one before) (remove_ask one.ask asks) left low last leads.1 (remove_rises one.ask low asks last rise) in
      let asked : times_asked ask (answer_by one.answer one before).actions ≡ times_asked ask before.actions + (0 + times_asked ask told.rest) =
      ap (times_asked ask) told.actions ∙ sum_by-append (asks_by ask) before.actions (Answered one ∷ told.rest) ∙ ap (λ n. times_asked ask before.actions + n) (sum_by-cons (asks_by ask) (Answered one) told.rest) in
      (omega (arith, rest.0, one_answered one before asks low last leads.0 rise), omega (arith, rest.1, asked, (told.silent ask).2))

  -- a piece of the helper's stream
  spent_telling : (state : State) (settled : List Settled) (left : List Ask) (link : HelperLink)
      → LeadTo settled state.under_way.link.asks left
      → RiseTo 0 state.under_way.link.asks state.under_way.link.last → link.asks ≡ left
      → link.last ≡ state.under_way.link.last
      → Spends ask state.under_way.link (answer_all settled (record { ports = state.ports; verifications = state.under_way.verifications; actions = [] })).actions link
  spent_telling state settled left link leads rise asks last =
      let old = state.under_way.link in
      let all = all_answered settled (record { ports = state.ports; verifications = state.under_way.verifications; actions = [] }) old.asks left 0 old.last leads rise in
      rw (last, asks) record { answered = by_test (nat_lt old.last ask) _ refl all.0; asked = omega (arith, all.1) }
    where
      none_above : (found : Option Ask) → find_ask ask state.under_way.link.asks ≡ found
          → state.under_way.link.last < ask → open_by found ≡ 0
      none_above None is above = refl
      none_above (Some one) is above = omega (arith, (ask_within ask 0 state.under_way.link.last state.under_way.link.asks one rise is).1, above)

      by_test : (new : Bool) (times : ℕ) → nat_lt state.under_way.link.last ask ≡ new
          → times + open_by (find_ask ask left) ≤ 0 + open_by (find_ask ask state.under_way.link.asks)
          → times + (if new then 1 else open_by (find_ask ask left)) ≤ (if new then 1 else open_by (find_ask ask state.under_way.link.asks))
      by_test true times is all =
          let above : state.under_way.link.last < ask = grind (arith, nat_tests) in
          omega (arith, all, none_above (find_ask ask state.under_way.link.asks) refl above)
      by_test false times is all = omega (arith, all)

  -- the loss
  spent_loss : (old new : HelperLink) → new.asks ≡ [] → new.last ≡ old.last
      → Spends ask old (Lost ∷ []) new
  spent_loss old new none last =
      rw (last, none) record { answered = grind (arith, nat_tests); asked = omega arith }

  -- an ask is put
  spent_put : (link new : HelperLink) (one : Ask) → RiseTo 0 link.asks link.last
      → one.number ≡ link.last + 1 → new.asks ≡ link.asks ++ one ∷ [] → new.last ≡ link.last + 1
      → (answerable ask new ≤ answerable ask link) × ((if link.last + 1 == ask then 1 else 0) + unused ask new.last ≤ unused ask link.last)
  spent_put link new one rise number asks last = rw (last, asks) (by_test (nat_lt link.last ask) refl, grind (arith, nat_tests))
    where
      by_test : (above : Bool) → nat_lt link.last ask ≡ above
          → (if nat_lt (link.last + 1) ask then 1 else open_by (find_ask ask (link.asks ++ one ∷ []))) ≤ (if above then 1 else open_by (find_ask ask link.asks))
      by_test true is =
          answerable_most ask (record link { asks = link.asks ++ one ∷ []; last = link.last + 1 })
      by_test false is =
          let low : nat_lt (link.last + 1) ask ≡ false = grind (arith, nat_tests) in
          let other : (one.number == ask) ≡ false = grind (arith, nat_tests) in
          let same : find_ask ask (link.asks ++ one ∷ []) ≡ find_ask ask link.asks =
          find-push ask 0 one link.asks link.last rise (omega (arith, number)) ∙ ap (λ b. cond b (Some one) (find_ask ask link.asks)) other in
          omega (arith, ap (λ b. if b then 1 else open_by (find_ask ask (link.asks ++ one ∷ []))) low, ap open_by same)

  -- ---- events

  spent_fault : (state : State) (settled : List Settled) (link : HelperLink) (fault : Option LinkFault)
      → LeadTo settled state.under_way.link.asks link.asks
      → RiseTo 0 state.under_way.link.asks state.under_way.link.last
      → link.last ≡ state.under_way.link.last →
      (let answering : Answering = answer_all settled (record { ports = state.ports; verifications = state.under_way.verifications; actions = [] }) in
      let outcome : Outcome = and_then (acted answering.actions (with_answers link answering state)) (lose_if fault) in
      Spends ask state.under_way.link outcome.actions outcome.state.under_way.link)
  spent_fault state settled link None leads rise last =
      spent_in_turn (spent_telling state settled link.asks link leads rise refl last) (nothing_spent ask link link refl refl)
  spent_fault state settled link (Some fault) leads rise last =
      spent_in_turn (spent_telling state settled link.asks link leads rise refl last) (spent_loss link _ refl refl)

  spent_quiet : {event : Happening} {old new : State} → Quiet event old new
      → Spends ask old.under_way.link [] new.under_way.link
  spent_quiet {old = old} (alters number f change) =
      nothing_spent ask old.under_way.link old.under_way.link refl refl
  spent_quiet {old = old} (closes number may) =
      nothing_spent ask old.under_way.link old.under_way.link refl refl
  spent_quiet {old = old} (goes_on new goes) =
      nothing_spent ask old.under_way.link new.link (same_asks goes).asks (same_asks goes).last
  spent_quiet {old = old} (names job number new) = nothing_spent ask old.under_way.link _ refl refl
  spent_quiet {old = old} (links job number new) = nothing_spent ask old.under_way.link _ refl refl

  spent_served : {asker : Asker} {held : KeyState} {under_way : UnderWay} {served : Served} (first_action : Action)
      → answers_by ask first_action ≡ 0 → asks_by ask first_action ≡ 0
      → RiseTo 0 under_way.link.asks under_way.link.last → IsServed asker held under_way served
      → Spends ask under_way.link (first_action ∷ served.work.actions) served.work.under_way.link
  spent_served first_action answers asks rise (answered reply kept same) =
      record { answered = omega (arith, answers); asked = omega (arith, asks) }
  spent_served first_action answers asks rise (refused cause) =
      record { answered = omega (arith, answers); asked = omega (arith, asks) }
  spent_served {asker = asker} {under_way = under_way} first_action answers asks rise (asked errand free right) =
      let put = spent_put under_way.link (with_ask errand asker.port under_way).link (ask_of (under_way.link.last + 1) asker.port (kind_of errand) (blob_of errand) under_way.second (size_of errand (under_way.link.last + 1))) rise refl refl refl in
      record { answered = omega (arith, answers, put.0); asked = omega (arith, asks, put.1) }
  spent_served first_action answers asks rise (raised key signing free) =
      record { answered = omega (arith, answers); asked = omega (arith, asks) }

  spent_granted : {chain : List Binding} {confirmation : Confirmation} {wall : ℕ} {held : KeyState} {under_way : UnderWay} {work : Work} (first_action : Action)
      → answers_by ask first_action ≡ 0 → asks_by ask first_action ≡ 0
      → RiseTo 0 under_way.link.asks under_way.link.last
      → IsGranted chain confirmation wall held under_way work
      → Spends ask under_way.link (first_action ∷ work.actions) work.under_way.link
  spent_granted first_action answers asks rise (disallowed never) =
      record { answered = omega (arith, answers); asked = omega (arith, asks) }
  spent_granted first_action answers asks rise (unasked cause key may fault) =
      record { answered = omega (arith, answers); asked = omega (arith, asks) }
  spent_granted {confirmation = confirmation} {under_way = under_way} first_action answers asks rise (allowed key may free) =
      let errand : Errand = Signs key (signing_of key confirmation) in
      let put = spent_put under_way.link (with_ask errand confirmation.asker under_way).link (ask_of (under_way.link.last + 1) confirmation.asker (kind_of errand) (blob_of errand) under_way.second (size_of errand (under_way.link.last + 1))) rise refl refl refl in
      record { answered = omega (arith, answers, put.0); asked = omega (arith, asks, put.1) }

  spent_makes : {event : Happening} {old : State} {outcome : Outcome} → Makes event old outcome
      → IsTied old → Spends ask old.under_way.link outcome.actions outcome.state.under_way.link
  spent_makes (stays state) tied =
      nothing_spent ask state.under_way.link state.under_way.link refl refl
  spent_makes (first quiet rest) tied =
      spent_in_turn (spent_quiet quiet) (spent_makes rest (tied-quiet quiet tied))
  spent_makes (serves body_len port state found door nothing owed own) tied =
      spent_served (Requested _) refl refl tied.order (serve-ends (asker_at state.moment port) state.held state.under_way (front_body body_len port.heard))
  spent_makes (tells piece state) tied =
      let told = telling piece state.under_way.link in
      spent_fault state told.settled told.link told.fault (settling_leads (state.under_way.link.heard ++ piece) state.under_way.link.asks) tied.order refl
  spent_makes (loses state) tied = spent_loss state.under_way.link _ refl refl
  spent_makes (overs confirmation state there) tied =
      record { answered = omega arith; asked = omega arith }
  spent_makes (grants confirmation port state there opened) tied =
      spent_granted (Granted confirmation.job) refl refl tied.order (grant-ends port.chain confirmation state)

  -- the moment
  moment-spends : (state : State) (moment : Moment)
      → Spends ask state.under_way.link (time_passes moment state).actions (at_moment moment state).under_way.link
  moment-spends state moment =
      time_passes-brings (λ s outcome. Spends ask s.under_way.link outcome.actions outcome.state.under_way.link) moment state
      (λ s. nothing_spent ask s.under_way.link s.under_way.link refl refl) (λ s. spent_loss s.under_way.link _ refl refl)
      (λ one s there. record { answered = omega arith; asked = omega arith }) (λ s before later some more. spent_in_turn some more)

  -- what an event brings
  handle-spends : (event : Happening) (state : State) → IsTied state
      → Spends ask state.under_way.link (handle event state).actions (handle event state).state.under_way.link
  handle-spends event state tied =
      by_event (λ outcome. Spends ask state.under_way.link outcome.actions outcome.state.under_way.link) event state
      (λ door. nothing_spent ask state.under_way.link state.under_way.link refl refl) (λ outcome makes. spent_makes makes tied)

  step-spends : (state : State) (moment : Moment) (event : Happening) → IsTied state
      → Spends ask state.under_way.link (step state moment event).actions (step state moment event).state.under_way.link
  step-spends state moment event tied =
      let opened : State = at_moment moment state in
      spent_in_turn (moment-spends state moment) (handle-spends event opened (tied-opened moment state tied))

  -- events one after another
  pub run-spends : (state : State) (events : List Timed) → IsTied state
      → Spends ask state.under_way.link (actions_of state events) (run state events).under_way.link
  run-spends state [] tied = nothing_spent ask state.under_way.link state.under_way.link refl refl
  run-spends state (timed ∷ later) tied =
      spent_in_turn (step-spends state timed.moment timed.event tied) (run-spends (step state timed.moment timed.event).state later (step-fated state timed.moment timed.event tied).tied)

-- ---- after the loss of the helper

module _ (ask : ℕ) where
  never_fails : (settled : List Settled) (before : Answering) → fate_of ask before.actions ≢ Fails
      → fate_of ask (answer_all settled before).actions ≢ Fails
  never_fails [] before other = other
  never_fails (one ∷ later) before other =
      never_fails later (answer_by one.answer one before) (λ is. by_fate (fate_of ask before.actions) other (one.ask == ask) (sym (answer-fate ask one before) ∙ is))
    where
      by_fate : (fate : Fate) → fate ≢ Fails → (equal : Bool)
          → or_later fate (if equal then Gets one.answer else Unanswered) ≡ Fails → ⊥
      by_fate Unanswered differs true is = absurd (cc)
      by_fate Unanswered differs false is = absurd (cc)
      by_fate (Gets answer) differs equal is = absurd (cc)
      by_fate Fails differs equal is = differs refl

  served_fails : {asker : Asker} {held : KeyState} {under_way : UnderWay} {served : Served}
      → IsServed asker held under_way served → fate_of ask served.work.actions ≡ Unanswered
  served_fails (answered reply kept same) = refl
  served_fails (refused cause) = refl
  served_fails (asked errand free right) = refl
  served_fails (raised key signing free) = refl

  granted_fails : {chain : List Binding} {confirmation : Confirmation} {wall : ℕ} {held : KeyState} {under_way : UnderWay} {work : Work}
      → IsGranted chain confirmation wall held under_way work
      → fate_of ask work.actions ≡ Unanswered
  granted_fails (disallowed never) = refl
  granted_fails (unasked cause key may fault) = refl
  granted_fails (allowed key may free) = refl

  -- nothing is unanswered
  lost_makes : {event : Happening} {old : State} {outcome : Outcome} → Makes event old outcome
      → IsTied old → fate_of ask outcome.actions ≡ Fails → outcome.state.under_way.link.asks ≡ []
  lost_makes (stays state) tied is = absurd (cc)
  lost_makes (first quiet rest) tied is = lost_makes rest (tied-quiet quiet tied) is
  lost_makes (serves body_len port state found door nothing owed own) tied is =
      let silent = served_fails (serve-ends (asker_at state.moment port) state.held state.under_way (front_body body_len port.heard)) in
      let no_loss : Unanswered ≡ Fails = sym silent ∙ is in
      absurd (cc)
  lost_makes (tells piece state) tied is =
      by_fault (telling piece state.under_way.link).fault (answer_all (telling piece state.under_way.link).settled (record { ports = state.ports; verifications = state.under_way.verifications; actions = [] }))
      (never_fails (telling piece state.under_way.link).settled (record { ports = state.ports; verifications = state.under_way.verifications; actions = [] }) (λ fails. absurd (cc))) is
    where
      by_fault : (fault : Option LinkFault) (answering : Answering)
          → fate_of ask answering.actions ≢ Fails
          → fate_of ask (answering.actions ++ (lose_if fault (with_answers (telling piece state.under_way.link).link answering state)).actions) ≡ Fails
          → (lose_if fault (with_answers (telling piece state.under_way.link).link answering state)).state.under_way.link.asks ≡ []
      by_fault None answering never fails =
          absurd (never (ap (fate_of ask) (sym (append-nil answering.actions)) ∙ fails))
      by_fault (Some fault) answering never fails = refl
  lost_makes (loses state) tied is = refl
  lost_makes (overs confirmation state there) tied is = absurd (cc)
  lost_makes (grants confirmation port state there opened) tied is =
      let silent = granted_fails (grant-ends port.chain confirmation state) in
      let no_loss : Unanswered ≡ Fails = sym silent ∙ is in
      absurd (cc)

  -- neither is anything behind a moment that lost it
  record Loses (old : State) (outcome : Outcome) : Type 0 where
    pub lost : fate_of ask outcome.actions ≡ Fails → outcome.state.under_way.link.asks ≡ []
    pub stays_lost : old.under_way.link.asks ≡ [] → outcome.state.under_way.link.asks ≡ []

  lost_in_turn : (old : State) (before later : Outcome) → Loses old before
      → Loses before.state later → Loses old (behind before later)
  lost_in_turn old before later one two = record {
    lost = λ is. by_fate (fate_of ask before.actions) refl (sym (fate-append ask before.actions later.actions) ∙ is);
    stays_lost = λ none. two.stays_lost (one.stays_lost none);
  }
    where
      by_fate : (fate : Fate) → fate_of ask before.actions ≡ fate
          → or_later fate (fate_of ask later.actions) ≡ Fails → later.state.under_way.link.asks ≡ []
      by_fate Unanswered at is = two.lost is
      by_fate (Gets answer) at is = absurd (cc)
      by_fate Fails at is = two.stays_lost (one.lost at)

  moment-loses : (moment : Moment) (state : State)
      → Loses (taken_in moment state) (time_passes moment state)
  moment-loses moment state =
      time_passes-brings Loses moment state
      (λ s. record { lost = λ is. absurd (cc); stays_lost = λ none. none }) (λ s. record { lost = λ is. refl; stays_lost = λ none. refl })
      (λ one s there. record { lost = λ is. absurd (cc); stays_lost = λ none. none }) lost_in_turn

-- what is answerable no more isn't unanswered
none_open : (number last : ℕ) (asks : List Ask) → number ≤ last
    → (if nat_lt last number then 1 else open_by (find_ask number asks)) ≤ 0
    → find_ask number asks ≡ None
none_open number last asks given few = by_found (find_ask number asks) refl (omega (arith, few, ap (λ b. if b then 1 else open_by (find_ask number asks)) low))
  where
    low : nat_lt last number ≡ false
    low = grind (arith, nat_tests)

    by_found : (found : Option Ask) → find_ask number asks ≡ found → open_by found ≤ 0
        → find_ask number asks ≡ None
    by_found None is none = is
    by_found (Some one) is none = absurd (omega (arith, none))

-- no ask that was put before the helper is lost is unanswered after
pub step-lost : (state : State) (moment : Moment) (event : Happening) (ask number : ℕ)
    → IsTied state → fate_of ask (step state moment event).actions ≡ Fails
    → number ≤ state.under_way.link.last
    → find_ask number (step state moment event).state.under_way.link.asks ≡ None
step-lost state moment event ask number tied fails given =
    by_fate (fate_of ask passed.actions) refl (sym (fate-append ask passed.actions happened.actions) ∙ fails)
  where
    passed : Outcome
    passed = time_passes moment state

    happened : Outcome
    happened = handle event passed.state

    handled : fate_of ask happened.actions ≡ Fails → happened.state.under_way.link.asks ≡ []
    handled =
        by_event (λ outcome. fate_of ask outcome.actions ≡ Fails → outcome.state.under_way.link.asks ≡ []) event passed.state
        (λ door is. absurd (cc)) (λ outcome makes. lost_makes ask makes (tied-opened moment state tied))

    behind_it : passed.state.under_way.link.asks ≡ []
        → find_ask number happened.state.under_way.link.asks ≡ None
    behind_it none =
        let old = passed.state.under_way.link in
        let spends = handle-spends number event passed.state (tied-opened moment state tied) in
        let within : number ≤ old.last = omega (arith, given, (moment-grows state moment).asks) in
        let low : nat_lt old.last number ≡ false = grind (arith, nat_tests) in
        let spent : answerable number old ≡ 0 = ap (λ b. if b then 1 else open_by (find_ask number old.asks)) low ∙ ap (λ asks. open_by (find_ask number asks)) none in
        none_open number happened.state.under_way.link.last happened.state.under_way.link.asks
        (omega (arith, within, (handle-grows event passed.state).asks)) (omega (arith, spends.answered, spent))

    by_fate : (fate : Fate) → fate_of ask passed.actions ≡ fate
        → or_later fate (fate_of ask happened.actions) ≡ Fails
        → find_ask number happened.state.under_way.link.asks ≡ None
    by_fate Unanswered at is = ap (find_ask number) (handled is)
    by_fate (Gets answer) at is = absurd (cc)
    by_fate Fails at is = behind_it ((moment-loses ask moment state).lost at)

-- a number that was given and isn't unanswered is never answered
pub never_answered : (ask : ℕ) (state : State) (events : List Timed) → IsTied state
    → ask ≤ state.under_way.link.last → find_ask ask state.under_way.link.asks ≡ None
    → times_answered ask (actions_of state events) ≡ 0
never_answered ask state events tied given none =
    let spends = run-spends ask state events tied in
    let old : nat_lt state.under_way.link.last ask ≡ false = grind (arith, nat_tests) in
    let spent : answerable ask state.under_way.link ≡ 0 = ap (λ b. if b then 1 else open_by (find_ask ask state.under_way.link.asks)) old ∙ ap open_by none in
    omega (arith, spends.answered, spent)
