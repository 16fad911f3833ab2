use Rattle.std.proofs.Common.{arith, sym, ◌∙◌}
use Rattle.replay_run.proofs.DrillLemmas.{helped_not, helped_started}
use Rattle.replay_run.proofs.TallyLemmas.{as_short, hello-short, put_behind}
use Rattle.replay_run.proofs.drill.drilled.Drill.help.Goals as goal

pub returns-then-not-wants_helper : goal.returns-then-not-wants_helper
returns-then-not-wants_helper c = helped_not c.args.moment c.args.self.now (sym c.wants_helper.ensures ∙ c.if-not-wants_helper.true)

pub line-requires-2-clause-fits : goal.line-requires-2-clause-fits
line-requires-2-clause-fits c = omega (arith, c.in_ok-line.ensures.ports, c.requires)

pub hear-requires : goal.hear-requires
hear-requires c = as_short _ _ (c.deref.ensures.value ∙ put_behind _ _ _ c.in_ok-put_hello.ensures c.new-hello.ensures.items) hello-short

pub returns : goal.returns
returns c =
    helped_started c.args.moment _ c.args.self.now c.line.new.self c.line-2.new.self c.hear.new.self
    (sym c.wants_helper.ensures ∙ c.if-not-wants_helper.false) c.in_ok-line.ensures.line c.in_ok-line-2.ensures.line
    (c.deref.ensures.value ∙ put_behind _ _ _ c.in_ok-put_hello.ensures c.new-hello.ensures.items) c.in_ok-hear.ensures.heard
