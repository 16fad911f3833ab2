use Rattle.known_hosts.proofs.KeyLemmas.{line_is_found, line_is_read}
use Rattle.known_hosts.proofs.laws.a_line_has_its_key.Goals as goal

pub returns : goal.returns
returns c = λ host line key small. (line_is_found host line key small, line_is_read host line key)
