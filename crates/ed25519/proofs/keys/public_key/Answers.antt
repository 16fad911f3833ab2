use Rattle.ed25519.proofs.SigningLemmas.{public_key-made, secret_scalar-made}
use Rattle.ed25519.proofs.keys.public_key.Goals as goal

pub returns : goal.returns
returns c =
    public_key-made c.args.seed.now _ _
    (secret_scalar-made c.args.seed.now _ _ c.hash_of.ensures c.secret_scalar_of.ensures) c.encoded_multiple.ensures
