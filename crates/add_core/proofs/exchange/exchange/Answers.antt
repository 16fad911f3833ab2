use Rattle.std.proofs.Common.{◌∙◌}
use Rattle.add_core.proofs.StepLemmas.{asked_whole, reply_is}
use Rattle.add_core.proofs.exchange.exchange.Goals as goal

pub returns-clause-told : goal.returns-clause-told
returns-clause-told g c = λ replies sink known.
    let takes = c.in_ok-take_reply.ensures.reply replies (c.write_all.ensures.only.left ∙ known) in
    asked_whole c.args.frame.now replies c.in_ok-take_reply.field-0.items _ _ _ sink c.in-Ok.ensures.ok c.take_reply.ensures.only takes

pub returns-clause-reply : goal.returns-clause-reply
returns-clause-reply g c = λ replies known.
    reply_is replies c.in_ok-take_reply.field-0.items _ (c.in_ok-take_reply.ensures.reply replies (c.write_all.ensures.only.left ∙ known))
