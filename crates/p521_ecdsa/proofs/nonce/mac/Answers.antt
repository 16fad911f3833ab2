use Rattle.p521_ecdsa.specs.Nonces.{mac}
use Rattle.p521_ecdsa.proofs.nonce.mac.Goals as goal

pub returns : goal.returns
unfolding mac
returns c = c.hmac_sha512.ensures
