use Rattle.prime_laws.proofs.InverseLemmas.{inverse-of}
use Rattle.prime_laws.proofs.primes.primes_give_inverses.Goals as goal

pub returns : goal.returns
returns c = inverse-of
