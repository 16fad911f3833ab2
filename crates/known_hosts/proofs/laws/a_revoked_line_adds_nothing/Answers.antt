use Rattle.known_hosts.proofs.KeyLemmas.{revoked_adds_nothing}
use Rattle.known_hosts.proofs.laws.a_revoked_line_adds_nothing.Goals as goal

pub returns : goal.returns
returns c = revoked_adds_nothing
