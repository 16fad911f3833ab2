use Rattle.log_laws.proofs.SeenLemmas.{sees_raises}
use Rattle.log_laws.proofs.laws.what_is_asked_is_seen.Goals as goal

pub returns : goal.returns
returns c = sees_raises
