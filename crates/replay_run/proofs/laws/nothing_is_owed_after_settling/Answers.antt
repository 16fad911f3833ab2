use Rattle.replay_run.proofs.SettlingLemmas.{nothing_is_owed}
use Rattle.replay_run.proofs.laws.nothing_is_owed_after_settling.Goals as goal

pub returns : goal.returns
returns c = nothing_is_owed
