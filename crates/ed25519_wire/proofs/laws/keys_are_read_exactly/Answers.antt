use Rattle.ed25519_wire.proofs.FoundLemmas.{pair_in-found}
use Rattle.ed25519_wire.proofs.OnlyLemmas.{pair_in-is}
use Rattle.ed25519_wire.proofs.laws.keys_are_read_exactly.Goals as goal

pub returns-clause-found : goal.returns-clause-found
returns-clause-found c = pair_in-found

pub returns-clause-only : goal.returns-clause-only
returns-clause-only c = pair_in-is
