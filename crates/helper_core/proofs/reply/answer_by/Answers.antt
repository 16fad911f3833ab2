use Rattle.std.proofs.Common.{◌∙◌, option_map, sym}
use Rattle.child_msg.specs.Messages.{from_child_message}
use Rattle.helper_core.proofs.ReplyLemmas.{counted-signature, counted-verdict}
use Rattle.helper_core.proofs.reply.answer_by.Goals as goal

pub returns-in-Signature-clause-answer : goal.returns-in-Signature-clause-answer
returns-in-Signature-clause-answer c = λ reply is.
    c.signed_under.ensures.answer ∙ sym (counted-signature c.args.asked c.in-Signature.ask reply (option_map from_child_message c.args.message) c.in-Signature.is is)

pub returns-in-Verdict-clause-answer : goal.returns-in-Verdict-clause-answer
returns-in-Verdict-clause-answer c = λ reply is.
    c.verdict_under.ensures.answer ∙ sym (counted-verdict c.args.asked c.in-Verdict.ask reply (option_map from_child_message c.args.message) c.in-Verdict.is is)
