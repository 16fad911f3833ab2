use Rattle.dest_rule.proofs.LawLemmas.{unbound_is_denied}
use Rattle.dest_rule.proofs.laws.nothing_is_signed_for_an_unbound_connection.Goals as goal

pub returns : goal.returns
returns c = unbound_is_denied
