use Rattle.std.proofs.Common.{◌∙◌, sym}
use Rattle.relay_core.proofs.PromptLemmas.{prompt_of-message, prompt_of-none}
use Rattle.relay_core.proofs.prompt.read_prompt.Goals as goal

pub returns-in-Ok-Confirm : goal.returns-in-Ok-Confirm
returns-in-Ok-Confirm c =
    let read = rw c.in-Ok-Confirm.field-0-is at c.in-Ok-Confirm.ensures.exact in
    c.shown.ensures ∙ sym (prompt_of-message c.args.job c.args.body.now _ read)

pub returns-in-Ok-Sign : goal.returns-in-Ok-Sign
returns-in-Ok-Sign c =
    let read = rw c.in-Ok-Sign.field-0-is at c.in-Ok-Sign.ensures.exact in
    sym (prompt_of-message c.args.job c.args.body.now _ read)

pub returns-in-Ok-Verify : goal.returns-in-Ok-Verify
returns-in-Ok-Verify c =
    let read = rw c.in-Ok-Verify.field-0-is at c.in-Ok-Verify.ensures.exact in
    sym (prompt_of-message c.args.job c.args.body.now _ read)

pub returns-in-Err : goal.returns-in-Err
returns-in-Err c = sym (prompt_of-none c.args.job c.args.body.now c.in-Err.field-0 c.in-Err.ensures.exact)
