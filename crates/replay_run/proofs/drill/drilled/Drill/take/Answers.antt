use Rattle.std.proofs.Common.{◌∙◌}
use Rattle.replay_run.proofs.KeptLemmas.{taking_by}
use Rattle.replay_run.proofs.drill.drilled.Drill.take.Goals as goal

pub returns : goal.returns
returns c =
    c.in_ok-step.ensures
    ∙ taking_by c.args.moment c.args.port c.owed_len-count.result c.args.self.now c.note.new.self c.in_ok-note.ensures.noted c.note.ensures.kept
    c.owed_len-count.ensures
