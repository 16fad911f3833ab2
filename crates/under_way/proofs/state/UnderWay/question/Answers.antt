use Rattle.std.proofs.Common.{◌≡◌, ◌≤◌, ℕ, List, Option, arith, length}
use Rattle.std.specs.Option.{option_map}
use Rattle.std.proofs.lemmas.Result.{IfOk-weaker}
use Rattle.confirm_desk.specs.Prompt.{prompt_for}
use Rattle.confirm_desk.proofs.PromptLemmas.{prompt_for_is_short}
use Rattle.under_way.proofs.state.UnderWay.question.Goals as goal

pub returns-clause-short : goal.returns-clause-short
returns-clause-short c =
    let host : Option (List ℕ) = option_map (λ name. name.now) c.args.host in
    IfOk-weaker c.prompt_for.result (λ text. text.items ≡ prompt_for c.comment.result.now c.blob.result.now c.purposes.result.now host c.args.message.now) (λ text. length text.items ≤ 512)
    (λ text is. rw is (prompt_for_is_short c.comment.result.now c.blob.result.now c.purposes.result.now host c.args.message.now (omega (arith, c.requires)))) c.prompt_for.ensures.text
