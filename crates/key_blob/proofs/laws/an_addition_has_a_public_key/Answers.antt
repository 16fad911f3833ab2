use Rattle.key_blob.proofs.Theorems.{blob_is_no_longer, blob_is_public}
use Rattle.key_blob.proofs.laws.an_addition_has_a_public_key.Goals as goal

pub returns : goal.returns
returns c = record {
  public = λ key is. let blob = blob_is_public key is in (blob.0, blob.1);
  no_longer = blob_is_no_longer;
}
