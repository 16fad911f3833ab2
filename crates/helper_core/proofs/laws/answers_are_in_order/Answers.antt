use Rattle.helper_core.specs.Transcript.{served}
use Rattle.helper_core.proofs.LawLemmas.{sends_answers}
use Rattle.helper_core.proofs.laws.answers_are_in_order.Goals as goal

pub returns : goal.returns
unfolding served
returns c = λ route replies stream. sends_answers route _ _ replies
