-- What the end of an event does to the ports: some are told what came of their requests, and some are closed.
use Rattle.std.proofs.Common.{◌≡◌, ℕ, ◌+◌, List, [], ◌∷◌, refl, Option, Some, None}
use Rattle.world_ports.specs.declared.Moment.{Moment}
use Rattle.helper_link.specs.HelperLink.{askers}
use Rattle.helper_link.specs.Telling.{telling}
use Rattle.helper_link.specs.declared.answer.Answer.{Answer}
use Rattle.helper_link.specs.declared.answer.Answer.TheVariants as answer
use Rattle.helper_link.specs.declared.answer.Settled.{Settled}
use Rattle.helper_link.specs.declared.fault.LinkFault.{LinkFault}
use Rattle.helper_link.specs.declared.state.LinkState.{LinkState}
use Rattle.helper_link.specs.declared.state.LinkState.TheVariants as states
use Rattle.dest_rule.specs.declared.binding.Binding.{Binding}
use Rattle.confirm_desk.specs.Confirmations.{Confirmation}
use Rattle.agent_model.specs.Actions.{Work}
use Rattle.agent_model.specs.Answers.{Answering, answer_all, answer_by, answer_true, answers_in, close_helper, find_verification, helper_heard, lose, lose_if, prove, tell_each, with_answers}
use Rattle.agent_model.specs.Consents.{close_confirmer, grant_concluded, over}
use Rattle.agent_model.specs.KeyStates.{KeyState}
use Rattle.agent_model.specs.State.{OnAsk, Port, State, UnderWay, Verification, change_port, remove_port}
use Rattle.agent_model.specs.Time.{at_moment}
use Rattle.agent_model.specs.Verdicts.{Awaits, Cause, HelperLost, HelperRefused, NoLongerAllowed, NotConfirmed, Refuses, Replies, Reply, Signature, SignatureWrong, Verdict, tell}
use Rattle.agent_model.proofs.GrantLemmas.{IsGranted, allowed, disallowed, unasked}
use Rattle.agent_model.proofs.LeadLemmas.{Leads, changes, removes, same}
use Rattle.agent_model.proofs.TimeLemmas.{at_moment-keeps}

-- a verdict that a client gets while it waits
pub data IsAnswer : Verdict → Type 0 where
  replying : (reply : Reply) → IsAnswer (Replies reply)
  refusing : (cause : Cause) → IsAnswer (Refuses cause)
  awaiting : (ask : ℕ) → IsAnswer (Awaits (OnAsk ask))

-- a client is told such a verdict, or that its binding is right
pub data IsNews : (Port → Port) → Type 0 where
  says : (verdict : Verdict) → IsAnswer verdict → IsNews (tell verdict)
  proves : (verification : Verification) → IsNews (prove verification)

-- the ports that news and removals lead to
pub data Told (old : List Port) : List Port → Type 0 where
  untold : Told old old
  news : (number : ℕ) (f : Port → Port) (ports : List Port) → IsNews f → Told old ports
      → Told old (change_port number f ports)
  gone : (number : ℕ) (ports : List Port) → Told old ports → Told old (remove_port number ports)

pub news-number : {f : Port → Port} → IsNews f → (p : Port) → (f p).number ≡ p.number
news-number (says verdict is) p = refl
news-number (proves verification) p = refl

pub news-door : {f : Port → Port} → IsNews f → (p : Port) → (f p).door ≡ p.door
news-door (says verdict is) p = refl
news-door (proves verification) p = refl

pub told-leads : {old new : List Port} → Told old new → Leads old new
told-leads untold = same
told-leads (news number f ports is told) =
    changes number f ports (news-number is) (news-door is) (told-leads told)
told-leads (gone number ports told) = removes number ports (told-leads told)

module _ (old : List Port) where
  told-each : (cause : Cause) (numbers : List ℕ) (ports : List Port) → Told old ports
      → Told old (tell_each (Refuses cause) numbers ports)
  told-each cause [] ports told = told
  told-each cause (number ∷ others) ports told =
      told-each cause others _ (news number _ ports (says _ (refusing cause)) told)

  told-helper : (link : LinkState) (ports : List Port) → Told old ports
      → Told old (close_helper link ports)
  told-helper states.None ports told = told
  told-helper (states.Starting job) ports told = told
  told-helper (states.Linked number) ports told = gone number ports told

  told-confirmer : (port : Option ℕ) (ports : List Port) → Told old ports
      → Told old (close_confirmer port ports)
  told-confirmer None ports told = told
  told-confirmer (Some number) ports told = gone number ports told

  told-true : (found : Option Verification) (one : Settled) (before : Answering)
      → Told old before.ports → Told old (answer_true found one before).ports
  told-true None one before told = news one.asker _ before.ports (says _ (refusing SignatureWrong)) told
  told-true (Some verification) one before told =
      news one.asker _ before.ports (proves verification) told

  told-answer : (what : Answer) (one : Settled) (before : Answering) → Told old before.ports
      → Told old (answer_by what one before).ports
  told-answer (answer.Signed signature) one before told =
      news one.asker _ before.ports (says _ (replying (Signature signature))) told
  told-answer answer.Refused one before told =
      news one.asker _ before.ports (says _ (refusing HelperRefused)) told
  told-answer answer.True one before told =
      told-true (find_verification one.ask before.verifications) one before told
  told-answer answer.False one before told =
      news one.asker _ before.ports (says _ (refusing SignatureWrong)) told

  told-answers : (settled : List Settled) (before : Answering) → Told old before.ports
      → Told old (answer_all settled before).ports
  told-answers [] before told = told
  told-answers (one ∷ later) before told =
      told-answers later (answer_by one.answer one before) (told-answer one.answer one before told)

  -- the loss of the helper, what it answers, and the end of a confirmation
  pub told-lose : (state : State) → Told old state.ports → Told old (lose state).state.ports
  told-lose state told = told-each HelperLost (askers state.under_way.link.asks) _ (told-helper state.under_way.link.state state.ports told)

  told-lose_if : (fault : Option LinkFault) (state : State) → Told old state.ports
      → Told old (lose_if fault state).state.ports
  told-lose_if None state told = told
  told-lose_if (Some fault) state told = told-lose state told

  pub told-heard : (piece : List ℕ) (state : State) → Told old state.ports
      → Told old (helper_heard piece state).state.ports
  told-heard piece state told =
      let all = telling piece state.under_way.link in
      told-lose_if all.fault (with_answers all.link (answers_in all.settled state) state) (told-answers all.settled _ told)

  pub told-over : (confirmation : Confirmation) (state : State) → Told old state.ports
      → Told old (over confirmation state).state.ports
  told-over confirmation state told = news confirmation.asker _ _ (says _ (refusing NotConfirmed)) (told-confirmer confirmation.port state.ports told)

  pub told-grant : {chain : List Binding} {confirmation : Confirmation} {wall : ℕ} {held : KeyState} {under_way : UnderWay} {work : Work} (state : State)
      → IsGranted chain confirmation wall held under_way work → Told old state.ports
      → Told old (grant_concluded work confirmation state).state.ports
  told-grant {confirmation = confirmation} state (disallowed never) told = news confirmation.asker _ _ (says _ (refusing NoLongerAllowed)) (told-confirmer confirmation.port state.ports told)
  told-grant {confirmation = confirmation} state (unasked cause key may fault) told = news confirmation.asker _ _ (says _ (refusing cause)) (told-confirmer confirmation.port state.ports told)
  told-grant {confirmation = confirmation} {under_way = under_way} state (allowed key may free) told =
      news confirmation.asker _ _ (says _ (awaiting (under_way.link.last + 1))) (told-confirmer confirmation.port state.ports told)

-- a moment changes the ports by what it tells them alone
pub told-moment : (moment : Moment) (state : State)
    → Told state.ports (at_moment moment state).ports
told-moment moment state =
    at_moment-keeps (λ s. Told state.ports s.ports) moment state (told-lose state.ports) (λ one s there. told-over state.ports one s) untold
