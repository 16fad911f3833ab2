use Rattle.prime_laws.proofs.InverseLemmas.{one-is-none, product-is-none}
use Rattle.prime_laws.proofs.primes.what_is_no_prime.Goals as goal

pub returns-clause-one : goal.returns-clause-one
returns-clause-one c = one-is-none

pub returns-clause-product : goal.returns-clause-product
returns-clause-product c = product-is-none
