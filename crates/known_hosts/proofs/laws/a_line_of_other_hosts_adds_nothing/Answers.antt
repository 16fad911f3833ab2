use Rattle.known_hosts.proofs.KeyLemmas.{others_add_nothing}
use Rattle.known_hosts.proofs.laws.a_line_of_other_hosts_adds_nothing.Goals as goal

pub returns : goal.returns
returns c = others_add_nothing
