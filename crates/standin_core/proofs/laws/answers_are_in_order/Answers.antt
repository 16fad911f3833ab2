use Rattle.standin_core.proofs.LawLemmas.{answers-in_order}
use Rattle.standin_core.proofs.laws.answers_are_in_order.Goals as goal

pub returns : goal.returns
returns c = answers-in_order
