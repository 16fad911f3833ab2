use Rattle.std.proofs.Common.{◌≡◌, ◌∙◌, ◌+◌, ap, arith, refl}
use Rattle.helper_link.specs.HelperLink.{begun}
use Rattle.helper_link.specs.declared.state.LinkState.TheVariants as states
use Rattle.agent_model.specs.State.{UnderWay as State}
use Rattle.under_way.specs.Parts.{under_way_of}
use Rattle.under_way.specs.Times.{limits_of}
use Rattle.under_way.proofs.KeepLemmas.{keeps-helper}
use Rattle.under_way.proofs.state.UnderWay.begin_helper.Goals as goal

pub invariant_of-self-2 : goal.invariant_of-self-2
invariant_of-self-2 c =
    let inside = c.self.inside in
    let u : State = under_way_of inside.link inside.to_start.items inside.started.items inside.verifications.items inside.desk inside.last_job (limits_of inside.limits) inside.second in
    let none : inside.link.state ≡ states.None = ap (λ (v : State). v.link.state) c.self.view_is ∙ c.requires.none in (
      rw (c.begin.ensures, c.in_ok-push.ensures.items, c.in_ok-reserve.ensures.items)
          (keeps-helper u (begun (inside.last_job + 1) inside.link) c.self.invariant.0 none refl),
      omega (arith, c.in_ok-push.ensures.len, c.in_ok-reserve.ensures.len, c.in_ok-reserve.ensures.ok, c.len-room.ensures),
    )
