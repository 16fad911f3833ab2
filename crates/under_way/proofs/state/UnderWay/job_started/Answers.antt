use Rattle.std.proofs.Common.{◌≡◌, ◌∙◌, List, Some, ap, arith, subst, sym}
use Rattle.std.proofs.lemmas.List.{map_push}
use Rattle.world_ports.specs.declared.Job.{Job}
use Rattle.agent_model.specs.Children.{is_wanted, remove_to_start}
use Rattle.agent_model.specs.State.{StartedJob, UnderWay as State, find_to_start}
use Rattle.under_way.specs.Jobs.{IsJobAt, all_started, started_job}
use Rattle.under_way.specs.Parts.{IsKept, under_way_of}
use Rattle.under_way.specs.Times.{limits_of}
use Rattle.under_way.proofs.KeepLemmas.{keeps-left, keeps-moved}
use Rattle.under_way.proofs.state.UnderWay.job_started.Goals as goal

pub invariant_of-self : goal.invariant_of-self
invariant_of-self c =
    let inside = c.self.inside in
    let u : State = under_way_of inside.link inside.to_start.items inside.started.items inside.verifications.items inside.desk inside.last_job (limits_of inside.limits) inside.second in
    let at : IsJobAt c.args.job inside.to_start.items c.in-Some.place = rw c.deref.ensures.value at c.in-Some.ensures in
    let job = c.index-job.result.now in
    let there : find_to_start c.args.job inside.to_start.items ≡ Some job = at.found job ∙ ap (λ (j : Job). Some j) (sym c.index-job.ensures) in
    let wanted = ap (is_wanted job.kind job.number) c.self.view_is ∙ sym c.is_wanted-is_wanted.ensures ∙ c.if-is_wanted.true in
    let pushed = ap all_started c.in-Ok.ensures.items ∙ map_push started_job inside.started.items (record { job = job; ticket = c.args.ticket }) in (
      subst (λ (jobs : List Job). IsKept (record u { to_start = jobs; started = all_started c.push.new.self.items })) (at.removed ∙ sym c.remove.ensures.items)
          (subst (λ (started : List StartedJob). IsKept (record u { to_start = remove_to_start c.args.job u.to_start; started = started })) (sym pushed)
          (keeps-moved u c.args.job job c.args.ticket c.self.invariant.0 there wanted)),
      omega (arith, c.self.invariant.1, c.remove.ensures.len, c.in-Ok.ensures.len, c.in-Ok.ensures.capacity),
    )

pub invariant_of-self-else-is_wanted : goal.invariant_of-self-else-is_wanted
invariant_of-self-else-is_wanted c =
    let inside = c.self.inside in
    let u : State = under_way_of inside.link inside.to_start.items inside.started.items inside.verifications.items inside.desk inside.last_job (limits_of inside.limits) inside.second in
    let at : IsJobAt c.args.job inside.to_start.items c.in-Some.place = rw c.deref.ensures.value at c.in-Some.ensures in (
      subst (λ (jobs : List Job). IsKept (record u { to_start = jobs })) (at.removed ∙ sym c.remove.ensures.items) (keeps-left u c.args.job c.self.invariant.0),
      omega (arith, c.self.invariant.1, c.remove.ensures.len),
    )
