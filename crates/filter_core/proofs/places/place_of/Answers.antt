use Rattle.filter_core.proofs.PlaceLemmas.{is_where_it_stands}
use Rattle.filter_core.proofs.places.place_of.Goals as goal

pub returns-in-Some : goal.returns-in-Some
returns-in-Some c = is_where_it_stands _ _ _ _ c.requires c.in-Some.ensures
