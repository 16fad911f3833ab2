use Rattle.lists.proofs.Places.{searched_numbers}
use Rattle.lists.proofs.rising.search.Goals as goal

pub returns : goal.returns
returns c = searched_numbers _ _ _ c.binary_search.ensures.position c.requires
