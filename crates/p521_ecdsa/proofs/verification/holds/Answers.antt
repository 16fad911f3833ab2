use Rattle.p521_ecdsa.proofs.VerifyingLemmas.{meets-some}
use Rattle.p521_ecdsa.proofs.verification.holds.Goals as goal

pub returns : goal.returns
returns c = meets-some _ _ _ _ _ _ _ _ _ c.recovered.ensures c.affine_x.ensures c.from_words-x.ensures c.to_words.ensures c.equals.ensures
