use Rattle.filter_model.proofs.FairLemmas.{each_is_fair}
use Rattle.filter_model.proofs.laws.fair.Goals as goal

pub returns : goal.returns
returns c = record { fair = each_is_fair }
