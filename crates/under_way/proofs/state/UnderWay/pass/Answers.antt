use Rattle.std.proofs.Common.{◌≤◌, subst, sym}
use Rattle.agent_model.specs.State.{UnderWay as State}
use Rattle.under_way.specs.Parts.{under_way_of}
use Rattle.under_way.specs.Times.{limits_of}
use Rattle.under_way.proofs.KeepLemmas.{keeps-later}
use Rattle.under_way.proofs.state.UnderWay.pass.Goals as goal

pub invariant_of-self : goal.invariant_of-self
invariant_of-self c =
    let inside = c.self.inside in
    let u : State = under_way_of inside.link inside.to_start.items inside.started.items inside.verifications.items inside.desk inside.last_job (limits_of inside.limits) inside.second in
    let later = subst (λ (v : State). v.second ≤ c.args.second) (sym c.self.view_is) c.requires in
    (keeps-later u c.args.second later c.self.invariant.0, c.self.invariant.1)
