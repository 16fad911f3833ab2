use Rattle.key_wire.proofs.ClosingLemmas.{seal_is_over}
use Rattle.key_wire.proofs.laws.a_seal_is_over_the_rest.Goals as goal

pub returns : goal.returns
returns c = seal_is_over
