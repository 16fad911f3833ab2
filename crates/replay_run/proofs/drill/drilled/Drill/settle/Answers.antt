use Rattle.std.proofs.Common.{sym, ◌∙◌}
use Rattle.replay_run.proofs.KeptLemmas.{next_lowers, next_owed_some, settled_none, settled_some}
use Rattle.replay_run.proofs.drill.drilled.Drill.settle.Goals as goal

pub take-requires : goal.take-requires
take-requires c = next_owed_some c.takings.self.agent c.in-Some.port c.in-Some.ensures.steady (sym c.in-Some.ensures.next)

pub takings-smaller : goal.takings-smaller
takings-smaller c =
    rw c.in_ok-take.ensures
    (next_lowers c.args.moment c.in-Some.port c.takings.self.agent c.in-Some.ensures.steady (sym c.in-Some.ensures.next))

pub takings-preserved : goal.takings-preserved
takings-preserved c =
    settled_some c.args.moment c.in-Some.port c.takings.self c.take.new.self c.in-Some.ensures.steady (sym c.in-Some.ensures.next) c.in_ok-take.ensures
    ∙ c.takings.invariant

pub returns : goal.returns
returns c = sym (settled_none c.args.moment c.takings.self (sym c.in_default.ensures.next)) ∙ c.takings.invariant
