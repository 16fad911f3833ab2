use Rattle.helper_link.proofs.CutLemmas.{told_in_turn-joined}
use Rattle.helper_link.proofs.laws.cuts_of_the_stream_do_not_matter.Goals as goal

pub returns : goal.returns
returns c = told_in_turn-joined
