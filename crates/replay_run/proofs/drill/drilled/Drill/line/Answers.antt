use Rattle.replay_run.proofs.KeptLemmas.{line-last_port, line_keeps}
use Rattle.replay_run.proofs.drill.drilled.Drill.line.Goals as goal

pub returns-clause-line : goal.returns-clause-line
returns-clause-line c =
    line_keeps c.args.moment _ c.args.self.now c.step.new.self c.settle.new.self c.requires.quiet c.in_ok-step.ensures c.in_ok-settle.ensures

pub returns-clause-ports : goal.returns-clause-ports
returns-clause-ports c =
    line-last_port c.args.moment _ c.args.self.now c.step.new.self c.settle.new.self c.in_ok-step.ensures c.in_ok-settle.ensures
