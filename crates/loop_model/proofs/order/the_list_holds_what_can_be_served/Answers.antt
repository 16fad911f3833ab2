use Rattle.loop_model.proofs.QuietLemmas.{ordered_kept, quiet_kept}
use Rattle.loop_model.proofs.order.the_list_holds_what_can_be_served.Goals as goal

pub returns-clause-ordered : goal.returns-clause-ordered
returns-clause-ordered c = ordered_kept

pub returns-clause-quiet : goal.returns-clause-quiet
returns-clause-quiet c = quiet_kept
