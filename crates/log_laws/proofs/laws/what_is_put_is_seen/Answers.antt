use Rattle.log_laws.proofs.SeenLemmas.{sees_puts}
use Rattle.log_laws.proofs.laws.what_is_put_is_seen.Goals as goal

pub returns : goal.returns
returns c = sees_puts
