use Rattle.std.proofs.Common.{refl}
use Rattle.helper_link.specs.HelperLink.{sign_request, submitted}
use Rattle.helper_link.specs.declared.ask.AskKind.TheVariants as asks
use Rattle.agent_model.specs.State.{UnderWay as State}
use Rattle.under_way.specs.Parts.{under_way_of}
use Rattle.under_way.specs.Times.{limits_of}
use Rattle.under_way.proofs.KeepLemmas.{keeps-asked}
use Rattle.under_way.proofs.state.UnderWay.put_sign.Goals as goal

pub invariant_of-self : goal.invariant_of-self
invariant_of-self c =
    let inside = c.self-2.inside in
    let u : State = under_way_of inside.link inside.to_start.items inside.started.items inside.verifications.items inside.desk inside.last_job (limits_of inside.limits) inside.second in (
      keeps-asked u c.ask_sign.new.self (submitted asks.Signing c.args.asker c.blob.result.now (sign_request c.private.result.now c.blob.result.now c.args.message.now c.args.flags) inside.second inside.link) asks.Signing c.args.asker c.blob.result.now _ c.ask_sign.result
          c.self-2.invariant.0 refl refl c.ask_sign.ensures.ok c.ask_sign.ensures.unchanged,
      c.self-2.invariant.1,
    )
