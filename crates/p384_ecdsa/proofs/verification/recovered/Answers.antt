use Rattle.p384_ecdsa.proofs.VerifyingLemmas.{recovered-made}
use Rattle.p384_ecdsa.proofs.verification.recovered.Goals as goal

pub returns : goal.returns
returns c =
    recovered-made _ _ _ _ _ _ _ _ _ _ _ _ _ _ _ c.requires.q c.requires.r c.requires.s c.from_words.ensures c.inverse-w.ensures c.from_words-2.ensures
    c.mul-u1.ensures c.from_words-3.ensures c.mul-u2.ensures c.to_words.ensures c.multiple-left.ensures.stands c.to_words-2.ensures
    c.multiple-right.ensures c.add.ensures
