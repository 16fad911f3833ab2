use Rattle.known_hosts.proofs.KeyLemmas.{return_dropped}
use Rattle.known_hosts.proofs.laws.lines_end_with_lf_or_cr_lf.Goals as goal

pub returns : goal.returns
returns c = return_dropped
