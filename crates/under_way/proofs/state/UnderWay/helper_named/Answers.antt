use Rattle.std.proofs.Common.{◌≡◌, List, ap, arith, subst, sym}
use Rattle.std.specs.Prelude.{IsSomeAnd}
use Rattle.helper_link.specs.HelperLink.{HelperLink, IsStarting}
use Rattle.world_ports.specs.declared.JobKind.TheVariants as kinds
use Rattle.agent_model.specs.Consents.{find_started}
use Rattle.agent_model.specs.State.{StartedJob, UnderWay as State}
use Rattle.under_way.specs.Parts.{IsKept, under_way_of}
use Rattle.under_way.specs.Times.{limits_of}
use Rattle.under_way.proofs.KeepLemmas.{helper_awaited, keeps-helper_named}
use Rattle.under_way.proofs.state.UnderWay.helper_named.Goals as goal

pub linked-requires : goal.linked-requires
linked-requires c =
    let inside = c.self.inside in
    let u : State = under_way_of inside.link inside.to_start.items inside.started.items inside.verifications.items inside.desk inside.last_job (limits_of inside.limits) inside.second in
    subst IsStarting (sym (helper_awaited u c.args.job c.self.invariant.0
    (subst (λ (v : State). IsSomeAnd (find_started c.args.job v.started) (λ one. one.job.kind ≡ kinds.Helper)) (sym c.self.view_is) c.requires))) tt

pub invariant_of-self : goal.invariant_of-self
invariant_of-self c =
    let inside = c.self.inside in
    let u : State = under_way_of inside.link inside.to_start.items inside.started.items inside.verifications.items inside.desk inside.last_job (limits_of inside.limits) inside.second in
    let named = subst (λ (v : State). IsSomeAnd (find_started c.args.job v.started) (λ one. one.job.kind ≡ kinds.Helper)) (sym c.self.view_is) c.requires in (
      subst (λ (started : List StartedJob). IsKept (record u { link = c.linked.new.self; started = started })) (sym c.forget.ensures.left)
          (keeps-helper_named u c.args.job c.linked.new.self c.self.invariant.0 named (ap (λ (l : HelperLink). l.asks) c.linked.ensures)),
      omega (arith, c.self.invariant.1, c.forget.ensures.fewer, c.forget.ensures.room),
    )
