use Rattle.pattern_core.proofs.PlaceLemmas.{has_place-and}
use Rattle.pattern_core.proofs.places.places_of_both.Goals as goal

pub returns : goal.returns
returns c k = has_place-and c.args.a c.args.b k
