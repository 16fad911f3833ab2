use Rattle.std.proofs.Common.{rules}
use Rattle.replay_run.proofs.TallyLemmas.{eight-size}
use Rattle.replay_run.proofs.drill.asking.eight_bytes.Goals as goal

pub returns-clause-size : goal.returns-clause-size
returns-clause-size c = eight-size _ c.args.number (search rules)
