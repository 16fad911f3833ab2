use Rattle.std.proofs.Common.{refl}
use Rattle.p521_ecdsa.proofs.NonceLemmas.{seeded-made}
use Rattle.p521_ecdsa.proofs.nonce.State.seeded.Goals as goal

pub returns : goal.returns
returns c = λ hash e_is.
    seeded-made _ c.args.e.now _ _ hash _ _ _ _ _ _ _ _ _ _ e_is c.to_words.ensures c.to_bytes-x.ensures c.to_words-2.ensures c.to_bytes-z.ensures
    refl refl c.seed_text.ensures c.mac-k1.ensures c.mac-v1.ensures c.seed_text-2.ensures c.mac-k2.ensures c.mac-v2.ensures
