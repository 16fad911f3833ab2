use Rattle.log_laws.proofs.TellLemmas.{tells-what-is-read}
use Rattle.log_laws.proofs.laws.what_is_told_was_read.Goals as goal

pub returns : goal.returns
returns c = tells-what-is-read
