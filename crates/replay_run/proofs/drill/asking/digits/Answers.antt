use Rattle.std.proofs.Common.{rules}
use Rattle.replay_run.proofs.TallyLemmas.{digits-size}
use Rattle.replay_run.proofs.drill.asking.digits.Goals as goal

pub returns-clause-size : goal.returns-clause-size
returns-clause-size c = digits-size _ c.args.number (search rules) c.ranges.number.fits
