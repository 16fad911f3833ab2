use Rattle.filter_model.proofs.PurposeLemmas.{each_keeps_purposes}
use Rattle.filter_model.proofs.laws.purposes.Goals as goal

pub returns : goal.returns
returns c = record { purposes = each_keeps_purposes }
