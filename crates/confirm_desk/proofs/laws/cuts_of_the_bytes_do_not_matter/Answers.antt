use Rattle.confirm_desk.proofs.CutLemmas.{told_in_turn-joined}
use Rattle.confirm_desk.proofs.laws.cuts_of_the_bytes_do_not_matter.Goals as goal

pub returns : goal.returns
returns c = told_in_turn-joined
