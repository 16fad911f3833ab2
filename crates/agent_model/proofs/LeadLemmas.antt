-- What events do to the ports: some are changed under their numbers, some are closed, and the last number stays.
use Rattle.std.proofs.Common.{◌≡◌, ℕ, List, [], ◌∷◌, refl, sym, subst, Option, Some, None}
use Rattle.helper_link.specs.HelperLink.{askers}
use Rattle.helper_link.specs.Telling.{telling}
use Rattle.helper_link.specs.declared.answer.Settled.{Settled}
use Rattle.helper_link.specs.declared.fault.LinkFault.{LinkFault}
use Rattle.helper_link.specs.declared.state.LinkState.{LinkState}
use Rattle.helper_link.specs.declared.state.LinkState.TheVariants as states
use Rattle.agent_model.specs.Actions.{Outcome}
use Rattle.agent_model.specs.Answers.{Answering, answer_all, answer_by, answers_in, close_helper, lose, lose_if, tell_each, with_answers}
use Rattle.agent_model.specs.Children.{unheard}
use Rattle.agent_model.specs.Consents.{close_confirmer}
use Rattle.agent_model.specs.Events.{Happening}
use Rattle.agent_model.specs.State.{Port, State, change_port, remove_port}
use Rattle.agent_model.specs.Verdicts.{HelperLost, Refuses, Verdict, tell}
use Rattle.agent_model.proofs.FateLemmas.{answers_as}
use Rattle.agent_model.proofs.MakeLemmas.{Makes, Quiet, alters, closes, first, goes_on, grants, links, loses, mild_of, names, overs, serves, stays, tells}

-- the ports that changes under their numbers and removals lead to
pub data Leads (old : List Port) : List Port → Type 0 where
  same : Leads old old
  changes : (number : ℕ) (f : Port → Port) (ports : List Port)
      → ((p : Port) → (f p).number ≡ p.number) → ((p : Port) → (f p).door ≡ p.door)
      → Leads old ports → Leads old (change_port number f ports)
  removes : (number : ℕ) (ports : List Port) → Leads old ports
      → Leads old (remove_port number ports)

-- a state whose ports lead to these, under the same last number
pub record Follows (old new : State) : Type 0 where
  pub last : new.last_port ≡ old.last_port
  pub ports : Leads old.ports new.ports

module _ (old : List Port) where
  pub leads-tell_each : (verdict : Verdict) (numbers : List ℕ) (ports : List Port) → Leads old ports
      → Leads old (tell_each verdict numbers ports)
  leads-tell_each verdict [] ports leads = leads
  leads-tell_each verdict (number ∷ others) ports leads =
      leads-tell_each verdict others (change_port number (tell verdict) ports) (changes number (tell verdict) ports (λ p. refl) (λ p. refl) leads)

  leads-close_helper : (link : LinkState) (ports : List Port) → Leads old ports
      → Leads old (close_helper link ports)
  leads-close_helper states.None ports leads = leads
  leads-close_helper (states.Starting job) ports leads = leads
  leads-close_helper (states.Linked port) ports leads = removes port ports leads

  pub leads-close_confirmer : (port : Option ℕ) (ports : List Port) → Leads old ports
      → Leads old (close_confirmer port ports)
  leads-close_confirmer None ports leads = leads
  leads-close_confirmer (Some port) ports leads = removes port ports leads

  pub leads-answers : (settled : List Settled) (before : Answering) → Leads old before.ports
      → Leads old (answer_all settled before).ports
  leads-answers [] before leads = leads
  leads-answers (one ∷ later) before leads =
      let told_as = answers_as one.answer one before in
      leads-answers later (answer_by one.answer one before) (subst (Leads old) (sym told_as.ports) (changes one.asker told_as.change before.ports told_as.number told_as.door leads))

module _ (event : Happening) (start : State) where
  follows-lose : (state : State) → Follows start state → Follows start (lose state).state
  follows-lose state follows = record {
    last = follows.last;
    ports = leads-tell_each start.ports (Refuses HelperLost) (askers state.under_way.link.asks) _
        (leads-close_helper start.ports state.under_way.link.state state.ports follows.ports);
  }

  follows-lose_if : (fault : Option LinkFault) (state : State) → Follows start state
      → Follows start (lose_if fault state).state
  follows-lose_if None state follows = follows
  follows-lose_if (Some fault) state follows = follows-lose state follows

  pub follows-quiet : {old new : State} → Quiet event old new → Follows start old
      → Follows start new
  follows-quiet {old} (alters number f change) follows = record { last = follows.last; ports = changes number f old.ports (mild_of change).number (mild_of change).door follows.ports }
  follows-quiet {old} (closes number may) follows =
      record { last = follows.last; ports = removes number old.ports follows.ports }
  follows-quiet (goes_on new goes) follows = record { last = follows.last; ports = follows.ports }
  follows-quiet {old} (names job number new) follows =
      record { last = follows.last; ports = changes number unheard old.ports (λ p. refl) (λ p. refl) follows.ports }
  follows-quiet {old} (links job number new) follows =
      record { last = follows.last; ports = changes number unheard old.ports (λ p. refl) (λ p. refl) follows.ports }

  -- what an event makes follows
  pub follows-makes : {old : State} {outcome : Outcome} → Makes event old outcome
      → Follows start old → Follows start outcome.state
  follows-makes (stays state) follows = follows
  follows-makes (first quiet rest) follows = follows-makes rest (follows-quiet quiet follows)
  follows-makes (serves body_len port state found door waits owed own) follows = record {
    last = follows.last;
    ports = changes port.number _ _ (λ p. refl) (λ p. refl) (changes port.number _ state.ports (λ p. refl) (λ p. refl) follows.ports);
  }
  follows-makes (tells piece state) follows =
      let told = telling piece state.under_way.link in
      follows-lose_if told.fault (with_answers told.link (answers_in told.settled state) state)
      record { last = follows.last; ports = leads-answers start.ports told.settled _ follows.ports }
  follows-makes (loses state) follows = follows-lose state follows
  follows-makes (overs confirmation state there) follows =
      record { last = follows.last; ports = changes confirmation.asker _ _ (λ p. refl) (λ p. refl) (leads-close_confirmer start.ports confirmation.port state.ports follows.ports) }
  follows-makes (grants confirmation port state there opened) follows =
      record { last = follows.last; ports = changes confirmation.asker _ _ (λ p. refl) (λ p. refl) (leads-close_confirmer start.ports confirmation.port state.ports follows.ports) }
