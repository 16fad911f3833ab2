use Rattle.prime_laws.proofs.FermatLemmas.{fermat, power-inverts}
use Rattle.prime_laws.proofs.primes.powers_come_round.Goals as goal

pub returns-clause-same : goal.returns-clause-same
returns-clause-same c = fermat

pub returns-clause-inverse : goal.returns-clause-inverse
returns-clause-inverse c = power-inverts
