use Rattle.edwards_laws.proofs.PrimeChain.{prime-of-255-bits}
use Rattle.edwards_laws.proofs.edwards25519.p_is_prime.Goals as goal

pub returns : goal.returns
returns c = prime-of-255-bits
