use Rattle.log_laws.proofs.WhyLemmas.{puts-what-was-read}
use Rattle.log_laws.proofs.laws.what_is_put_was_read.Goals as goal

pub returns : goal.returns
returns c = puts-what-was-read
