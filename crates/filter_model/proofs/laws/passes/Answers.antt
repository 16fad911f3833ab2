use Rattle.filter_model.proofs.PassLemmas.{each_passes}
use Rattle.filter_model.proofs.laws.passes.Goals as goal

pub returns : goal.returns
returns c = record { passes = each_passes }
