use Rattle.std.proofs.Common.{List, subst, sym}
use Rattle.confirm_desk.specs.Confirmations.{Confirmation}
use Rattle.agent_model.specs.State.{UnderWay as State}
use Rattle.under_way.specs.Parts.{IsKept, under_way_of}
use Rattle.under_way.specs.Times.{limits_of}
use Rattle.under_way.proofs.KeepLemmas.{keeps-took}
use Rattle.under_way.proofs.state.UnderWay.confirmer_took.Goals as goal

pub invariant_of-self : goal.invariant_of-self
invariant_of-self c =
    let inside = c.self.inside in
    let u : State = under_way_of inside.link inside.to_start.items inside.started.items inside.verifications.items inside.desk inside.last_job (limits_of inside.limits) inside.second in (
      subst (λ (desk : List Confirmation). IsKept (record u { confirmations = desk })) (sym c.took.ensures)
          (keeps-took u c.args.port c.args.count c.self.invariant.0),
      c.self.invariant.1,
    )
