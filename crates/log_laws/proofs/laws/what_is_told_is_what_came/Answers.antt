use Rattle.log_laws.proofs.AllEndLemmas.{tells-what-came}
use Rattle.log_laws.proofs.laws.what_is_told_is_what_came.Goals as goal

pub returns : goal.returns
returns c = tells-what-came
