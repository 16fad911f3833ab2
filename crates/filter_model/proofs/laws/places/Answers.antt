use Rattle.filter_model.proofs.FewLemmas.{each_holds_few}
use Rattle.filter_model.proofs.laws.places.Goals as goal

pub returns : goal.returns
returns c = record { places = each_holds_few }
