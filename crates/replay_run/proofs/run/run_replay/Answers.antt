use Rattle.agent_core.specs.Parts.{settings_of}
use Rattle.replay_run.proofs.RoundLemmas.{ends-start, hands-start}
use Rattle.replay_run.proofs.run.run_replay.Goals as goal

pub returns-in_default-clause-ends : goal.returns-in_default-clause-ends
returns-in_default-clause-ends g c = ends-start (settings_of c.args.settings) (record { input = g.I.Stream.seen c.args.input.now; output = g.O.Stream.seen c.args.output.now })

pub returns-in_default-clause-agent : goal.returns-in_default-clause-agent
returns-in_default-clause-agent g c = hands-start (settings_of c.args.settings) (record { input = g.I.Stream.seen c.args.input.now; output = g.O.Stream.seen c.args.output.now })
