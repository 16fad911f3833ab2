use Rattle.std.proofs.Common.{◌∙◌, List, ap, subst, sym}
use Rattle.confirm_desk.specs.Confirmations.{Confirmation}
use Rattle.agent_model.specs.State.{UnderWay, State}
use Rattle.agent_core.specs.Bound.{IsBound}
use Rattle.agent_core.specs.Confirmers.{AreQuiet}
use Rattle.agent_core.specs.Slots.{open_of}
use Rattle.agent_core.specs.Parts.{after, state_of}
use Rattle.agent_core.proofs.AgentLemmas.{bound-left}
use Rattle.agent_core.proofs.ConfirmerLemmas.{quiet-asking}
use Rattle.agent_core.proofs.FailLemmas.{confirmer_fails, helper_fails}
use Rattle.agent_core.proofs.OwingNewsLemmas.{spared-jobs}
use Rattle.agent_core.proofs.parts.Parts.fail.Goals as goal

pub lose_starting-requires : goal.lose_starting-requires
lose_starting-requires c =
    let rest = rw (← c.self.view_is) at c.requires.rest in
    let parts = c.self.inside in
    subst (λ (u : UnderWay). IsBound parts.ports.ports u) (sym c.job_failed.ensures.left)
    (bound-left c.args.job (state_of parts.wall parts.keys parts.under_way (open_of parts.ports)) rest)

pub returns-in-Helper-clause-parts : goal.returns-in-Helper-clause-parts
returns-in-Helper-clause-parts c =
    let fits = rw (← c.self.view_is) at c.requires.fits in
    let parts = c.self.inside in
    rw (← c.self.view_is) (c.lose_starting.ensures.parts
    ∙ ap (after parts.ports.closed) (helper_fails parts.wall parts.keys parts.under_way c.job_failed.new.self (open_of parts.ports) c.args.job c.job_failed.result fits c.job_failed.ensures.kind c.in-Helper.is c.job_failed.ensures.left))

pub end_if-requires : goal.end_if-requires
end_if-requires c =
    let rest = rw (← c.self.view_is) at c.requires.rest in
    let P : List Confirmation → Type 0 = λ cs. AreQuiet cs c.self.inside.ports.ports in
    record {
      quiet = subst P (sym (ap (λ (u : UnderWay). u.confirmations) c.job_failed.ensures.left)) (quiet-asking c.self.inside.ports.ports c.self.inside.under_way.confirmations rest.tied.raised.asking);
    }

pub returns-in-Confirm-clause-parts : goal.returns-in-Confirm-clause-parts
returns-in-Confirm-clause-parts c =
    let fits = rw (← c.self.view_is) at c.requires.fits in
    let parts = c.self.inside in
    rw (← c.self.view_is) (c.end_if.ensures.parts parts.wall parts.keys
    ∙ ap (after parts.ports.closed) (confirmer_fails parts.wall parts.keys parts.under_way c.job_failed.new.self (open_of parts.ports) c.args.job c.job_failed.result fits c.job_failed.ensures.kind c.in-Confirm.is c.job_failed.ensures.left))

pub returns-in-Helper-clause-spared : goal.returns-in-Helper-clause-spared
returns-in-Helper-clause-spared c =
    let parts = c.self.inside in
    rw (← c.self.view_is) (λ (was : State) spared.
    c.lose_starting.ensures.spared was (spared-jobs was parts.under_way c.job_failed.new.self parts.ports _ _ c.job_failed.ensures.left spared))

pub returns-in-Confirm-clause-spared : goal.returns-in-Confirm-clause-spared
returns-in-Confirm-clause-spared c =
    let parts = c.self.inside in
    rw (← c.self.view_is) (λ (was : State) spared.
    c.end_if.ensures.spared was (spared-jobs was parts.under_way c.job_failed.new.self parts.ports _ _ c.job_failed.ensures.left spared))
