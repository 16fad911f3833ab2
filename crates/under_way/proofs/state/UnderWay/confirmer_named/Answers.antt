use Rattle.std.proofs.Common.{◌≡◌, List, arith, subst, sym}
use Rattle.std.specs.Prelude.{IsSomeAnd}
use Rattle.world_ports.specs.declared.JobKind.TheVariants as kinds
use Rattle.confirm_desk.specs.Confirmations.{Confirmation}
use Rattle.agent_model.specs.Consents.{find_started, remove_started}
use Rattle.agent_model.specs.State.{StartedJob, UnderWay as State}
use Rattle.under_way.specs.Parts.{IsKept, under_way_of}
use Rattle.under_way.specs.Times.{limits_of}
use Rattle.under_way.proofs.KeepLemmas.{confirm_awaited, keeps-linked}
use Rattle.under_way.proofs.state.UnderWay.confirmer_named.Goals as goal

pub linked-requires-clause-raised : goal.linked-requires-clause-raised
linked-requires-clause-raised c =
    let inside = c.self.inside in
    let u : State = under_way_of inside.link inside.to_start.items inside.started.items inside.verifications.items inside.desk inside.last_job (limits_of inside.limits) inside.second in
    confirm_awaited u c.args.job c.self.invariant.0
    (subst (λ (v : State). IsSomeAnd (find_started c.args.job v.started) (λ one. one.job.kind ≡ kinds.Confirm)) (sym c.self.view_is) c.requires.started)

pub invariant_of-self : goal.invariant_of-self
invariant_of-self c =
    let inside = c.self.inside in
    let u : State = under_way_of inside.link inside.to_start.items inside.started.items inside.verifications.items inside.desk inside.last_job (limits_of inside.limits) inside.second in
    let named = subst (λ (v : State). IsSomeAnd (find_started c.args.job v.started) (λ one. one.job.kind ≡ kinds.Confirm)) (sym c.self.view_is) c.requires.started in (
      subst (λ (started : List StartedJob). IsKept (record u { started = started; confirmations = c.linked.new.self })) (sym c.forget.ensures.left)
          (subst (λ (desk : List Confirmation). IsKept (record u { started = remove_started c.args.job u.started; confirmations = desk })) (sym c.linked.ensures)
          (keeps-linked u c.args.job c.args.port c.self.invariant.0 named)),
      omega (arith, c.self.invariant.1, c.forget.ensures.fewer, c.forget.ensures.room),
    )
