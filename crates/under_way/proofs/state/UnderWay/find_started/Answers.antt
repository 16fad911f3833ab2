use Rattle.std.proofs.Common.{◌≡◌, ◌∙◌, ap, subst}
use Rattle.agent_model.specs.Consents.{find_started}
use Rattle.agent_model.specs.State.{UnderWay as State}
use Rattle.under_way.specs.Parts.{IsFor, under_way_of}
use Rattle.under_way.specs.Times.{limits_of}
use Rattle.under_way.proofs.KeepLemmas.{is_for}
use Rattle.under_way.proofs.state.UnderWay.find_started.Goals as goal

pub returns-clause-kind : goal.returns-clause-kind
returns-clause-kind c one found =
    let inside = c.self.inside in
    let u : State = under_way_of inside.link inside.to_start.items inside.started.items inside.verifications.items inside.desk inside.last_job (limits_of inside.limits) inside.second in
    subst (λ (v : State). IsFor one.job.kind c.args.job v × (one.job.number ≡ c.args.job)) c.self.view_is
    (is_for u c.args.job one c.self.invariant.0 (ap (λ (v : State). find_started c.args.job v.started) c.self.view_is ∙ found))
