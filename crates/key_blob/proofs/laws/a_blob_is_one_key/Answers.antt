use Rattle.key_blob.proofs.PublicLemmas.{public_is_unique}
use Rattle.key_blob.proofs.laws.a_blob_is_one_key.Goals as goal

pub returns : goal.returns
returns c = public_is_unique
