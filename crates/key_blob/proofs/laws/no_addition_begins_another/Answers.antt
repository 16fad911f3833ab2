use Rattle.key_blob.proofs.Theorems.{addition_is_unique}
use Rattle.key_blob.proofs.laws.no_addition_begins_another.Goals as goal

pub returns : goal.returns
returns c = addition_is_unique
