use Rattle.prime_laws.proofs.P384OrderChain.{prime-of-384-bits}
use Rattle.prime_laws.proofs.p384.p384_order_is_prime.Goals as goal

pub returns : goal.returns
returns c = prime-of-384-bits
