use Rattle.std.proofs.Common.{◌≡◌, ◌∙◌, List, Some, ap, arith, subst, sym}
use Rattle.std.proofs.lemmas.Option.{same_Some}
use Rattle.world_ports.specs.declared.Job.{Job}
use Rattle.agent_model.specs.State.{UnderWay as State, find_to_start}
use Rattle.under_way.specs.Jobs.{IsJobAt}
use Rattle.under_way.specs.Parts.{FitsToStart, IsKept, under_way_of}
use Rattle.under_way.specs.Times.{limits_of}
use Rattle.under_way.proofs.KeepLemmas.{keeps-left}
use Rattle.under_way.proofs.KeptLemmas.{given_at}
use Rattle.under_way.proofs.state.UnderWay.job_failed.Goals as goal

pub invariant_of-self : goal.invariant_of-self
invariant_of-self c =
    let inside = c.self.inside in
    let u : State = under_way_of inside.link inside.to_start.items inside.started.items inside.verifications.items inside.desk inside.last_job (limits_of inside.limits) inside.second in
    let at : IsJobAt c.args.job inside.to_start.items c.in-Some.place = rw c.deref.ensures.value at c.in-Some.ensures in (
      subst (λ (jobs : List Job). IsKept (record u { to_start = jobs })) (at.removed ∙ sym c.remove.ensures.items) (keeps-left u c.args.job c.self.invariant.0),
      omega (arith, c.self.invariant.1, c.remove.ensures.len),
    )

pub returns-clause-kind : goal.returns-clause-kind
returns-clause-kind c failed found =
    let inside = c.self.inside in
    let u : State = under_way_of inside.link inside.to_start.items inside.started.items inside.verifications.items inside.desk inside.last_job (limits_of inside.limits) inside.second in
    let at : IsJobAt c.args.job inside.to_start.items c.in-Some.place = rw c.deref.ensures.value at c.in-Some.ensures in
    let there : find_to_start c.args.job inside.to_start.items ≡ Some c.remove.result = at.found c.remove.result ∙ ap (λ (job : Job). Some job) (sym c.remove.ensures.value) in
    let same : c.remove.result ≡ failed = same_Some c.remove.result failed (sym there ∙ ap (λ (v : State). find_to_start c.args.job v.to_start) c.self.view_is ∙ found) in (
      ap (λ (job : Job). job.kind) (sym same),
      ap (λ (job : Job). job.number) (sym same) ∙ (given_at FitsToStart u.last_job c.args.job u.confirmations u.to_start c.remove.result c.self.invariant.0.jobs.to_start there).1,
    )
