use Rattle.std.proofs.Common.{ap, ◌∙◌}
use Rattle.dest_rule.specs.Chains.{is_open}
use Rattle.dest_rule.proofs.ChainLemmas.{newest-last}
use Rattle.dest_rule.proofs.chain.is_open.Goals as goal

pub returns-in-Some : goal.returns-in-Some
returns-in-Some c = ap is_open (c.in-Some.ensures.value ∙ newest-last c.args.bindings.now)

pub returns-in-None : goal.returns-in-None
returns-in-None c = ap is_open (c.in-None.ensures.value ∙ newest-last c.args.bindings.now)
