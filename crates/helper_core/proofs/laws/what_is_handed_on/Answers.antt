use Rattle.helper_core.specs.Transcript.{served}
use Rattle.helper_core.proofs.LawLemmas.{are_first}
use Rattle.helper_core.proofs.laws.what_is_handed_on.Goals as goal

pub returns : goal.returns
unfolding served
returns c = λ route replies stream. are_first route _ _ replies
