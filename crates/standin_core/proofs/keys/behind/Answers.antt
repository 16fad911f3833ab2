use Rattle.standin_core.proofs.KeyLemmas.{behind_by}
use Rattle.standin_core.proofs.keys.behind.Goals as goal

pub returns : goal.returns
returns c =
    behind_by c.strip_prefix.result c.args.front.now c.args.bytes.now c.strip_prefix.ensures.cases
