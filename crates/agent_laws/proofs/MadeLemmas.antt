-- What the helper answers agrees with the past, and so does all that an event makes.
use Rattle.std.proofs.Common.{◌≡◌, ℕ, List, [], ◌∷◌, ◌++◌, refl, ap, sym, subst, ◌∙◌, Option, Some, None, arith}
use Rattle.std.proofs.lemmas.Bool.Decides.{nat_tests}
use Rattle.world_ports.specs.declared.Moment.{Moment}
use Rattle.helper_link.specs.Answered.{LeadTo}
use Rattle.helper_link.specs.Settling.{remove_ask}
use Rattle.helper_link.specs.Telling.{Telling, telling}
use Rattle.helper_link.specs.declared.answer.Answer.TheVariants as answer
use Rattle.helper_link.specs.declared.answer.Settled.{Settled}
use Rattle.helper_link.specs.declared.ask.Ask.{Ask}
use Rattle.helper_link.specs.declared.fault.LinkFault.{LinkFault}
use Rattle.helper_link.proofs.AnswerLemmas.{settling_leads}
use Rattle.agent_model.specs.Actions.{Action, Answered, Lost, Outcome, Over, acted, and_then}
use Rattle.agent_model.specs.Answers.{Answering, answer_all, answer_by, lose, lose_if, proved_where_open, with_answers}
use Rattle.agent_model.specs.Events.{Happening}
use Rattle.agent_model.specs.KeyStates.{KeyState}
use Rattle.agent_model.specs.Runs.{Stamped}
use Rattle.agent_model.specs.Sound.{IsTied}
use Rattle.agent_model.specs.State.{Port, State, Verification, find_port}
use Rattle.agent_model.proofs.ActionLemmas.{each-answers, each-append}
use Rattle.agent_model.proofs.BindLemmas.{AnswerIs, answer_is, proves, tells as told_so}
use Rattle.agent_model.proofs.JudgedLemmas.{keeps-quiet}
use Rattle.agent_model.proofs.TiedLemmas.{tied-quiet}
use Rattle.agent_model.proofs.MakeLemmas.{Makes, first, grants, loses, overs, serves, stays, tells}
use Rattle.confirm_desk.specs.Confirmations.{Confirmation}
use Rattle.agent_model.proofs.GrantLemmas.{grant-ends}
use Rattle.agent_laws.proofs.GrantedLemmas.{goes-granted, over-agrees}
use Rattle.agent_laws.proofs.RaisedLemmas.{all_raised-more}
use Rattle.agent_laws.specs.Dues.{without_ask}
use Rattle.agent_laws.specs.History.{onto}
use Rattle.agent_laws.specs.Puts.{ArePut, none}
use Rattle.agent_laws.proofs.MessageLemmas.{puts-silent}
use Rattle.agent_laws.proofs.SilentLemmas.{AreSilent, IsSilent}
use Rattle.agent_laws.proofs.HoldsLemmas.{Holds, facts_of}
use Rattle.agent_laws.proofs.PastLemmas.{LawfulIf, lawful-append, onto-append, stamp, stamps, stamps-append}
use Rattle.agent_laws.proofs.PlaceLemmas.{parts_of}
use Rattle.agent_laws.proofs.StepLemmas.{Agrees, Goes, Opened, calm-quiet, opened-quiet, served-agrees, served-lawful, served-puts}

-- the numbers and sizes of the asks that are left
parts-removed : (number : ℕ) (pending : List Ask)
    → without_ask number (parts_of pending) ≡ parts_of (remove_ask number pending)
parts-removed number [] = refl
parts-removed number (one ∷ pending) =
    let rest = parts-removed number pending in
    grind (arith, nat_tests)

-- more is done, and agrees
pub agrees-more : {N : Type 0} (life : Option ℕ) (moment : Moment) (past : List Stamped) (some more : List Action) (held : KeyState) (pending : List Ask) (confirmations : List Confirmation) → Agrees N life moment.mono (onto (onto past (stamps moment some)) (stamps moment more)) held pending confirmations → Agrees N life moment.mono (onto past (stamps moment (some ++ more))) held pending confirmations
agrees-more {N = N} life moment past some more held pending confirmations agrees =
    subst (λ whole. Agrees N life moment.mono whole held pending confirmations)
    (sym (ap (onto past) (stamps-append moment some more) ∙ onto-append past (stamps moment some) (stamps moment more))) agrees

pub lawful-more : (N : Type 0) (life : Option ℕ) (moment : Moment) (past : List Stamped) (some more : List Action)
    → LawfulIf N life past (stamps moment some)
    → LawfulIf N life (onto past (stamps moment some)) (stamps moment more)
    → LawfulIf N life past (stamps moment (some ++ more))
lawful-more N life moment past some more first_is later_is =
    subst (LawfulIf N life past) (sym (stamps-append moment some more)) (lawful-append N life past (stamps moment some) (stamps moment more) first_is later_is)

-- what holds holds behind an answer, and behind a binding that was proved
module _ {N : Type 0} (life : Option ℕ) (moment : Moment) (held : KeyState) (one : Settled) (past : List Stamped) (pending : List Ask) (confirmations : List Confirmation) (agrees : Agrees N life moment.mono past held pending confirmations) where
  abbrev holds : Holds life moment.mono (facts_of past) held
  holds = agrees.holds

  answered-agrees : Agrees N life moment.mono (stamp moment (Answered one) ∷ past) held (remove_ask one.ask pending) confirmations
  answered-agrees = record {
    holds = record { locked = holds.locked; count = holds.count; default = holds.default; own = holds.own; numbers = holds.numbers; found = holds.found };
    opens = ap (without_ask one.ask) agrees.opens ∙ parts-removed one.ask pending;
    raised = all_raised-more past _ held confirmations (λ job. refl) agrees.raised;
    idle = λ n. refl;
  }

  proved-agrees : (found : Option Port) (verification : Verification)
      → Agrees N life moment.mono (onto past (stamps moment (Answered one ∷ proved_where_open found verification))) held (remove_ask one.ask pending) confirmations
  proved-agrees None verification = answered-agrees
  proved-agrees (Some port) verification = record {
    holds = record { locked = holds.locked; count = holds.count; default = holds.default; own = holds.own; numbers = holds.numbers; found = holds.found };
    opens = answered-agrees.opens;
    raised = all_raised-more past _ held confirmations (λ job. refl) agrees.raised;
    idle = λ n. refl;
  }

  proved-lawful : (found : Option Port) (verification : Verification)
      → LawfulIf N life past (stamps moment (Answered one ∷ proved_where_open found verification))
  proved-lawful None verification = (agrees.idle, λ n. refl)
  proved-lawful (Some port) verification = (agrees.idle, (λ n. refl, λ n. refl))

  lost-agrees : Agrees N life moment.mono (stamp moment Lost ∷ past) held [] confirmations
  lost-agrees = record {
    holds = record { locked = holds.locked; count = holds.count; default = holds.default; own = holds.own; numbers = holds.numbers; found = holds.found };
    opens = refl;
    raised = all_raised-more past _ held confirmations (λ job. refl) agrees.raised;
    idle = λ n. refl;
  }

-- ---- answers, one after another

pub record Told (N : Type 0) (life : Option ℕ) (moment : Moment) (held : KeyState) (past : List Stamped) (answering : Answering) (pending : List Ask) (confirmations : List Confirmation) : Type 0 where
  pub lawful : LawfulIf N life past (stamps moment answering.actions)
  pub agrees : Agrees N life moment.mono (onto past (stamps moment answering.actions)) held pending confirmations

module _ {N : Type 0} (life : Option ℕ) (moment : Moment) (held : KeyState) (past : List Stamped) (confirmations : List Confirmation) where
  told-is : (one : Settled) (before : Answering) (pending : List Ask) {after : Answering}
      → AnswerIs one before after → Told N life moment held past before pending confirmations
      → Told N life moment held past after (remove_ask one.ask pending) confirmations
  told-is one before pending (told_so verdict) told = record {
    lawful = lawful-more N life moment past before.actions (Answered one ∷ []) told.lawful (told.agrees.idle, λ n. refl);
    agrees = agrees-more life moment past before.actions (Answered one ∷ []) held (remove_ask one.ask pending) confirmations (answered-agrees life moment held one (onto past (stamps moment before.actions)) pending confirmations told.agrees);
  }
  told-is one before pending (proves verification noted) told =
      let found : Option Port = find_port one.asker before.ports in
      record {
        lawful = lawful-more N life moment past before.actions (Answered one ∷ proved_where_open found verification) told.lawful (proved-lawful life moment held one (onto past (stamps moment before.actions)) pending confirmations told.agrees found verification);
        agrees = agrees-more life moment past before.actions (Answered one ∷ proved_where_open found verification) held (remove_ask one.ask pending) confirmations (proved-agrees life moment held one (onto past (stamps moment before.actions)) pending confirmations told.agrees found verification);
      }

  told-all : (settled : List Settled) (before : Answering) (pending left : List Ask)
      → LeadTo settled pending left → Told N life moment held past before pending confirmations
      → Told N life moment held past (answer_all settled before) left confirmations
  told-all [] before pending left leads told =
      subst (λ all. Told N life moment held past before all confirmations) (sym leads) told
  told-all (one ∷ later) before pending left leads told =
      told-all later (answer_by one.answer one before) (remove_ask one.ask pending) left leads.1 (told-is one before pending (answer_is one.answer one before) told)

-- a piece of the helper's stream, with its fault
module _ {N : Type 0} (life : Option ℕ) (past : List Stamped) (piece : List ℕ) (state : State) (opened : Opened N life past state) where
  abbrev read : Telling
  read = telling piece state.under_way.link

  abbrev before : Answering
  before =
      record { ports = state.ports; verifications = state.under_way.verifications; actions = [] }

  abbrev after : Answering
  after = answer_all read.settled before

  told : Told N life state.moment state.held past after read.link.asks state.under_way.confirmations
  told = told-all life state.moment state.held past state.under_way.confirmations read.settled before state.under_way.link.asks read.link.asks
      (settling_leads (state.under_way.link.heard ++ piece) state.under_way.link.asks) record { lawful = opened.agrees.idle; agrees = opened.agrees }

  silent : AreSilent after.actions
  silent = each-answers IsSilent (λ one. tt) (λ proving. tt) read.settled before tt

  nobody : Settled
  nobody = record { ask = 0; asker = 0; answer = answer.Refused }

  goes-fault : (fault : Option LinkFault)
      → Goes N life past state (and_then (acted after.actions (with_answers read.link after state)) (lose_if fault))
  goes-fault None = record {
    lawful = lawful-more N life state.moment past after.actions [] told.lawful told.agrees.idle;
    agrees = agrees-more life state.moment past after.actions [] state.held read.link.asks state.under_way.confirmations told.agrees;
    moment = refl;
    puts = puts-silent state.moment past (after.actions ++ []) (each-append IsSilent after.actions [] silent tt);
  }
  goes-fault (Some fault) = record {
    lawful = lawful-more N life state.moment past after.actions (Lost ∷ []) told.lawful (told.agrees.idle, λ n. refl);
    agrees = agrees-more life state.moment past after.actions (Lost ∷ []) state.held [] state.under_way.confirmations (lost-agrees life state.moment state.held nobody (onto past (stamps state.moment after.actions)) read.link.asks state.under_way.confirmations told.agrees);
    moment = refl;
    puts = puts-silent state.moment past (after.actions ++ Lost ∷ []) (each-append IsSilent after.actions (Lost ∷ []) silent (tt, tt));
  }

  nobody_lost : Goes N life past state (lose state)
  nobody_lost = record {
    lawful = (opened.agrees.idle, λ n. refl);
    agrees = lost-agrees life state.moment state.held nobody past state.under_way.link.asks state.under_way.confirmations opened.agrees;
    moment = refl;
    puts = puts-silent state.moment past (Lost ∷ []) (tt, tt);
  }

-- ---- events

pub goes-makes : {N : Type 0} {event : Happening} {old : State} {outcome : Outcome} (life : Option ℕ) (past : List Stamped)
    → Makes event old outcome → IsTied old → Opened N life past old → Goes N life past old outcome
goes-makes life past (stays state) tied opened =
    record { lawful = opened.agrees.idle; agrees = opened.agrees; moment = refl; puts = none past }
goes-makes {N = N} {old = old} life past (first {mid = mid} {outcome = outcome} quiet rest) tied opened =
    let calm = calm-quiet quiet in
    let later = goes-makes life past rest (tied-quiet quiet tied) (opened-quiet life past old mid calm (keeps-quiet quiet tied.rising) opened) in
    record {
      lawful =
          subst (λ m. LawfulIf N life past (stamps m outcome.actions)) calm.moment later.lawful;
      agrees = subst (λ m. Agrees N life m.mono (onto past (stamps m outcome.actions)) outcome.state.held outcome.state.under_way.link.asks outcome.state.under_way.confirmations) calm.moment later.agrees;
      moment = later.moment ∙ calm.moment;
      puts =
          subst (λ m. ArePut past (stamps m outcome.actions) outcome.put) calm.moment later.puts;
    }
goes-makes life past (serves body_len port state found door nothing owed own) tied opened = record {
  lawful = served-lawful life past body_len port state found tied.raised.order opened;
  agrees = served-agrees life past body_len port state found tied.raised.order opened;
  moment = refl;
  puts = served-puts life past body_len port state found tied.raised.order opened;
}
goes-makes life past (tells piece state) tied opened =
    goes-fault life past piece state opened (telling piece state.under_way.link).fault
goes-makes life past (loses state) tied opened = nobody_lost life past [] state opened
goes-makes life past (overs confirmation state there) tied opened = record {
  lawful = (opened.agrees.idle, λ n. refl);
  agrees = over-agrees life past confirmation state tied.raised.order opened;
  moment = refl;
  puts = puts-silent state.moment past (Over confirmation.job ∷ []) (tt, tt);
}
goes-makes life past (grants confirmation port state there found) tied opened =
    goes-granted life past confirmation port state tied.raised.order there found opened (grant-ends port.chain confirmation state)
