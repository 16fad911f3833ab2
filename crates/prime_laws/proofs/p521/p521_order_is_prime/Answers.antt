use Rattle.prime_laws.proofs.P521OrderChain.{prime-of-521-bits}
use Rattle.prime_laws.proofs.p521.p521_order_is_prime.Goals as goal

pub returns : goal.returns
returns c = prime-of-521-bits
