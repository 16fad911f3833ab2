use Rattle.dest_rule.proofs.ChainLemmas.{known_judged, same_judged}
use Rattle.dest_rule.proofs.laws.a_known_session_is_never_new.Goals as goal

pub returns : goal.returns
returns c = record { not_new = known_judged; same = same_judged }
