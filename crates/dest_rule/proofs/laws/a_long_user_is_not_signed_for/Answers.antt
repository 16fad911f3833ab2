use Rattle.dest_rule.proofs.LawLemmas.{signed_user_is_short}
use Rattle.dest_rule.proofs.laws.a_long_user_is_not_signed_for.Goals as goal

pub returns : goal.returns
returns c = signed_user_is_short
