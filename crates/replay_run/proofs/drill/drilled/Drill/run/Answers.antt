use Rattle.std.proofs.Common.{ap, arith, sym, ◌∙◌, ◌≤◌, ◌+◌, ℕ}
use Rattle.replay_run.specs.Drill.{drilled, round_of}
use Rattle.replay_run.specs.Drilling.{kept}
use Rattle.replay_run.proofs.DrillLemmas.{drilled-last_port, drilled-next}
use Rattle.replay_run.proofs.drill.drilled.Drill.run.Goals as goal

pub rounds-init : goal.rounds-init
rounds-init c = c.in_ok-join_clients.ensures

pub round-requires : goal.round-requires
round-requires c =
    let most : c.rounds.self.agent.last_port ≤ 8 + c.rounds.round =
    rw c.rounds.invariant (drilled-last_port c.rounds.round c.args.self.now.number) in
    omega (arith, most, c.requires.few)

pub rounds-preserved : goal.rounds-preserved
rounds-preserved c =
    let before = drilled c.rounds.round c.args.self.now.number in
    c.in_ok-round.ensures before c.rounds.invariant
    ∙ ap (λ (n : ℕ). kept (round_of (n + 1) before)) c.from.ensures
    ∙ sym (ap kept (drilled-next c.rounds.round c.args.self.now.number))
