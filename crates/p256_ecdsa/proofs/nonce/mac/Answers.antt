use Rattle.p256_ecdsa.specs.Nonces.{mac}
use Rattle.p256_ecdsa.proofs.nonce.mac.Goals as goal

pub returns : goal.returns
unfolding mac
returns c = c.hmac_sha256.ensures
