use Rattle.std.proofs.Common.{ap, arith, sym, ◌≡◌, ◌∙◌}
use Rattle.replay_run.specs.Drill.{agent_of, joined, start_drill}
use Rattle.replay_run.specs.Drilling.{kept}
use Rattle.replay_run.proofs.DrillLemmas.{joined-last_port, joined-next}
use Rattle.replay_run.proofs.drill.drilled.Drill.join_clients.Goals as goal

pub line-requires-clause-fits : goal.line-requires-clause-fits
line-requires-clause-fits c =
    let before = joined c.clients._client (start_drill c.args.self.now.number) in
    let last : (agent_of before).last_port ≡ c.clients._client =
    omega (arith, joined-last_port c.clients._client (start_drill c.args.self.now.number)) in
    let same : c.clients.self.agent.last_port ≡ c.clients._client = rw c.clients.invariant last in
    omega (arith, same, c.clients-test.true)

pub clients-preserved : goal.clients-preserved
clients-preserved c =
    c.in_ok-line.ensures.line (joined c.clients._client (start_drill c.args.self.now.number)) c.clients.invariant
    ∙ sym (ap kept (joined-next c.clients._client (start_drill c.args.self.now.number)))
