use Rattle.dest_rule.proofs.LawLemmas.{mark_is_free}
use Rattle.dest_rule.proofs.laws.the_mark_counts_only_without_bindings.Goals as goal

pub returns : goal.returns
returns c = mark_is_free
