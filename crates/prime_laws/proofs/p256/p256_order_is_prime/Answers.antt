use Rattle.prime_laws.proofs.P256OrderChain.{prime-of-256-bits}
use Rattle.prime_laws.proofs.p256.p256_order_is_prime.Goals as goal

pub returns : goal.returns
returns c = prime-of-256-bits
