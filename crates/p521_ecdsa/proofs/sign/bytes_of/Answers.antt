use Rattle.p521_ecdsa.proofs.SigningLemmas.{joined-made}
use Rattle.p521_ecdsa.proofs.sign.bytes_of.Goals as goal

pub returns : goal.returns
returns c =
    joined-made c.args.pair.now _ _ _ _ _ c.to_words.ensures c.to_bytes.ensures c.to_words-2.ensures c.to_bytes-2.ensures c.both.ensures
