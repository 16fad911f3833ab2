use Rattle.std.proofs.Common.{ap, length, ◌∙◌, ℕ}
use Rattle.replay_run.specs.Drill.{agent_of, counts_of, drilled, replies, summary_of}
use Rattle.replay_run.specs.Drilling.{Kept}
use Rattle.replay_run.proofs.drill.drilled.Drill.run_to_summary.Goals as goal

pub returns-clause-text : goal.returns-clause-text
returns-clause-text c =
    c.in_ok-summary.ensures
    ∙ ap (λ (k : Kept). summary_of c.args.rounds c.args.seed k.counts (length k.agent.held.table.identities)) c.in_ok-run.ensures
    ∙ ap (λ (n : ℕ). let drill = drilled c.args.rounds n in
    summary_of c.args.rounds c.args.seed (counts_of (replies drill)) (length (agent_of drill).held.table.identities))
    (ap (λ (k : Kept). k.number) c.requires.start)
