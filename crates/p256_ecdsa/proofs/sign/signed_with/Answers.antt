use Rattle.p256_ecdsa.proofs.SigningLemmas.{signed_with-made}
use Rattle.p256_ecdsa.proofs.KeyLemmas.{in_range-within}
use Rattle.p256_ecdsa.proofs.sign.signed_with.Goals as goal

pub returns : goal.returns
returns c = λ hash e_is.
    signed_with-made _ _ hash _ _ 0 _ _ _ _ _ _ _ c.requires e_is c.multiple.ensures.x c.affine_x.ensures c.from_words-r.ensures
    c.from_words.ensures c.inverse.ensures c.mul.ensures c.add.ensures c.mul-s.ensures

pub multiple-requires : goal.multiple-requires
multiple-requires c = in_range-within _ c.requires
