use Rattle.loop_model.proofs.DueLemmas.{none_ends}
use Rattle.loop_model.proofs.laws.no_wait_ends_before_it_is_due.Goals as goal

pub returns : goal.returns
returns c = none_ends
