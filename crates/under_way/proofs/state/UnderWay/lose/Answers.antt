use Rattle.std.proofs.Common.{◌∙◌, List, ap, arith, subst, sym}
use Rattle.helper_link.specs.HelperLink.{HelperLink, lost}
use Rattle.agent_model.specs.Answers.{forget_helper}
use Rattle.agent_model.specs.State.{StartedJob, UnderWay as State, Verification}
use Rattle.under_way.specs.Jobs.{all_started}
use Rattle.under_way.specs.Parts.{IsKept, under_way_of}
use Rattle.under_way.specs.Times.{limits_of}
use Rattle.under_way.specs.Verifications.{all_verifications}
use Rattle.under_way.proofs.KeepLemmas.{keeps-lost}
use Rattle.under_way.proofs.state.UnderWay.lose.Goals as goal

pub invariant_of-self : goal.invariant_of-self
invariant_of-self c =
    let inside = c.self.inside in
    let u : State = under_way_of inside.link inside.to_start.items inside.started.items inside.verifications.items inside.desk inside.last_job (limits_of inside.limits) inside.second in
    let left : List Verification = all_verifications c.clear.new.self.items in
    let forgot = c.forget_helper.ensures.left ∙ ap (λ s. forget_helper s (all_started inside.started.items)) c.state.ensures.value in (
      subst (λ (link : HelperLink). IsKept (record u { link = link; started = all_started c.forget_helper.new.started.items; verifications = left })) (sym c.lose.ensures.link)
          (subst (λ (started : List StartedJob). IsKept (record u { link = lost u.link; started = started; verifications = left })) (sym forgot)
          (keeps-lost u left c.self.invariant.0)),
      omega (arith, c.self.invariant.1, c.forget_helper.ensures.fewer, c.forget_helper.ensures.room),
    )
