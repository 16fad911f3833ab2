use Rattle.agent_core.specs.Parts.{settings_of}
use Rattle.log_core.proofs.PieceLemmas.{log-memory}
use Rattle.log_core.proofs.rounds.write_log.Goals as goal

pub returns-in_default-clause-logs : goal.returns-in_default-clause-logs
returns-in_default-clause-logs g c = log-memory (settings_of c.args.settings) (record { input = g.I.Stream.seen c.args.input.now; output = g.O.Stream.seen c.args.output.now })
