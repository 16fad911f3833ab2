use Rattle.confirm_desk.proofs.PromptLemmas.{prompt_for_is_short}
use Rattle.confirm_desk.proofs.laws.questions_are_short.Goals as goal

pub returns : goal.returns
returns c = prompt_for_is_short
