use Rattle.std.proofs.Common.{refl, subst, sym}
use Rattle.helper_link.specs.HelperLink.{HelperLink, submitted, verify_request}
use Rattle.helper_link.specs.declared.ask.AskKind.TheVariants as asks
use Rattle.agent_model.specs.State.{UnderWay as State}
use Rattle.under_way.specs.Parts.{IsKept, under_way_of}
use Rattle.under_way.specs.Times.{limits_of}
use Rattle.under_way.proofs.KeepLemmas.{keeps-put}
use Rattle.under_way.proofs.state.UnderWay.put_verify.Goals as goal

pub invariant_of-self : goal.invariant_of-self
invariant_of-self c =
    let inside = c.self.inside in
    let u : State = under_way_of inside.link inside.to_start.items inside.started.items inside.verifications.items inside.desk inside.last_job (limits_of inside.limits) inside.second in (
      subst (λ (link : HelperLink). IsKept (record u { link = link })) (sym c.in-Ok.ensures.ok)
          (keeps-put u (submitted asks.Verifying c.args.asker c.args.host_key.now (verify_request c.args.host_key.now c.args.signature.now c.args.session.now) inside.second inside.link) asks.Verifying c.args.asker c.args.host_key.now _ c.self.invariant.0 refl refl),
      c.self.invariant.1,
    )
