use Rattle.dest_rule.proofs.LawLemmas.{signed_is_newest}
use Rattle.dest_rule.proofs.laws.only_the_newest_session_is_signed_for.Goals as goal

pub returns : goal.returns
returns c = signed_is_newest
