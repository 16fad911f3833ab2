use Rattle.key_blob.proofs.PlaceLemmas.{private_is_within}
use Rattle.key_blob.proofs.added.private_from.Goals as goal

pub overflow_sub-result : goal.overflow_sub-result
overflow_sub-result c = private_is_within c.args.added.now c.in-Ok.private.now c.requires c.in-Ok.ensures
