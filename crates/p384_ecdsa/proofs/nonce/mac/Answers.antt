use Rattle.p384_ecdsa.specs.Nonces.{mac}
use Rattle.p384_ecdsa.proofs.nonce.mac.Goals as goal

pub returns : goal.returns
unfolding mac
returns c = c.hmac_sha384.ensures
