use Rattle.ecdsa_laws.proofs.P521SignedLemmas.{r-in-range, s-in-range, signed-meets}
use Rattle.ecdsa_laws.proofs.p521.what_is_signed_verifies.Goals as goal

pub returns-clause-r : goal.returns-clause-r
returns-clause-r c = r-in-range

pub returns-clause-s : goal.returns-clause-s
returns-clause-s c = s-in-range

pub returns-clause-meets : goal.returns-clause-meets
returns-clause-meets c = signed-meets
