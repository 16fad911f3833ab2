use Rattle.p384_ecdsa.proofs.KeyLemmas.{public_key-made}
use Rattle.p384_ecdsa.proofs.KeyLemmas.{in_range-within}
use Rattle.p384_ecdsa.proofs.keys.key_of.Goals as goal

pub returns : goal.returns
returns c = public_key-made c.args.d.now _ _ c.multiple.ensures.encoded c.encode.ensures

pub multiple-requires : goal.multiple-requires
multiple-requires c = in_range-within _ c.requires
