use Rattle.known_hosts.proofs.KeyLemmas.{keys_behind}
use Rattle.known_hosts.proofs.laws.keys_stand_in_the_order_of_lines.Goals as goal

pub returns : goal.returns
returns c = keys_behind
