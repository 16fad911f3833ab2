use Rattle.filter_model.proofs.WatchLemmas.{each_is_exact}
use Rattle.filter_model.proofs.laws.exact.Goals as goal

pub returns : goal.returns
returns c = record { exact = each_is_exact }
