use Rattle.replay_laws.proofs.AlikeRowLemmas.{doubled-renames, locks_are_alike}
use Rattle.replay_laws.proofs.secrets.a_lock_has_another_name.Goals as goal

pub returns-clause-renaming : goal.returns-clause-renaming
returns-clause-renaming c = doubled-renames

pub returns-clause-alike : goal.returns-clause-alike
returns-clause-alike c = locks_are_alike
