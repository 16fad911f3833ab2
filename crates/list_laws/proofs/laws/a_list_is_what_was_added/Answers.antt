use Rattle.list_laws.proofs.RunLemmas.{each-alone, each-listed}
use Rattle.list_laws.proofs.laws.a_list_is_what_was_added.Goals as goal

pub returns : goal.returns
returns c = record { listed = each-listed; only = each-alone }
