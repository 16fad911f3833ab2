use Rattle.redact_core.proofs.BlankLemmas.{each_stays}
use Rattle.redact_core.proofs.laws.additions_stay_additions.Goals as goal

pub returns : goal.returns
returns c = record { stays = each_stays }
