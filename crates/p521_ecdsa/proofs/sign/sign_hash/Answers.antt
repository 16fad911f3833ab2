use Rattle.p521_ecdsa.proofs.SigningLemmas.{signature-none, signature-some}
use Rattle.p521_ecdsa.proofs.sign.sign_hash.Goals as goal

pub returns-in-Some : goal.returns-in-Some
returns-in-Some c = signature-some _ _ _ c.in-Some.pair _ c.pair_of.ensures c.in-Some.is c.bytes_of.ensures

pub returns-in-None : goal.returns-in-None
returns-in-None c = signature-none _ _ _ c.pair_of.ensures c.in-None.is
