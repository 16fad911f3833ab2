use Rattle.dest_rule.proofs.LawLemmas.{signed_is_visible}
use Rattle.dest_rule.proofs.laws.what_may_be_signed_is_visible.Goals as goal

pub returns : goal.returns
returns c = signed_is_visible
