use Rattle.std.proofs.Common.{List, arith, subst, sym}
use Rattle.confirm_desk.specs.Confirmations.{Confirmation}
use Rattle.agent_model.specs.Consents.{remove_started}
use Rattle.agent_model.specs.State.{StartedJob, UnderWay as State}
use Rattle.under_way.specs.Parts.{IsKept, under_way_of}
use Rattle.under_way.specs.Times.{limits_of}
use Rattle.under_way.proofs.KeepLemmas.{ended-short, keeps-ended}
use Rattle.under_way.proofs.state.UnderWay.end_confirmation.Goals as goal

pub invariant_of-self : goal.invariant_of-self
invariant_of-self c =
    let inside = c.self.inside in
    let u : State = under_way_of inside.link inside.to_start.items inside.started.items inside.verifications.items inside.desk inside.last_job (limits_of inside.limits) inside.second in (
      subst (λ (started : List StartedJob). IsKept (record u { started = started; confirmations = c.lose.new.self })) (sym c.forget.ensures.left)
          (subst (λ (desk : List Confirmation). IsKept (record u { started = remove_started c.args.job u.started; confirmations = desk })) (sym c.lose.ensures.desk)
          (keeps-ended u c.args.job c.self.invariant.0)),
      omega (arith, c.self.invariant.1, c.forget.ensures.fewer, c.forget.ensures.room),
    )

pub returns-clause-short : goal.returns-clause-short
returns-clause-short c =
    let inside = c.self.inside in
    let u : State = under_way_of inside.link inside.to_start.items inside.started.items inside.verifications.items inside.desk inside.last_job (limits_of inside.limits) inside.second in
    ended-short u c.args.job c.in-Some.held c.self.invariant.0 c.in-Some.ensures.held
