use Rattle.std.proofs.Common.{refl, subst, sym}
use Rattle.helper_link.specs.HelperLink.{HelperLink, IsLinked}
use Rattle.helper_link.specs.Telling.{telling}
use Rattle.agent_model.specs.State.{UnderWay as State}
use Rattle.under_way.specs.Parts.{IsKept, under_way_of}
use Rattle.under_way.specs.Times.{limits_of}
use Rattle.under_way.proofs.KeepLemmas.{keeps-dropped, keeps-link}
use Rattle.under_way.proofs.TimeLemmas.{put-told}
use Rattle.under_way.proofs.state.UnderWay.helper_told.Goals as goal

pub invariant_of-self : goal.invariant_of-self
invariant_of-self c =
    let inside = c.self.inside in
    let u : State = under_way_of inside.link inside.to_start.items inside.started.items inside.verifications.items inside.desk inside.last_job (limits_of inside.limits) inside.second in
    let told = (telling c.args.piece.now inside.link).link in (
      subst (λ (link : HelperLink). IsKept (record u { link = link })) (sym c.in-Ok.ensures.link)
          (keeps-link u told c.self.invariant.0 refl (put-told c.args.piece.now inside.link inside.second c.self.invariant.0.asked)),
      c.self.invariant.1,
    )

pub invariant_of-self-in-Err : goal.invariant_of-self-in-Err
invariant_of-self-in-Err c =
    let inside = c.self.inside in
    let u : State = under_way_of inside.link inside.to_start.items inside.started.items inside.verifications.items inside.desk inside.last_job (limits_of inside.limits) inside.second in
    let linked = subst (λ (v : State). IsLinked v.link.state) (sym c.self.view_is) c.requires in (
      subst (λ (link : HelperLink). IsKept (record u { link = link })) (sym c.new.ensures) (keeps-dropped u linked c.self.invariant.0),
      c.self.invariant.1,
    )
