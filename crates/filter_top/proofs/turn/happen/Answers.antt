use Rattle.std.proofs.Common.{◌∙◌, ap, subst, sym}
use Rattle.filter_model.specs.Filters.{State}
use Rattle.filter_model.specs.Answered.{Free, after_event, at, due_of}
use Rattle.filter_core.specs.Happenings.{happening}
use Rattle.filter_top.specs.Moves.{Goes}
use Rattle.filter_top.proofs.MoveLemmas.{no_call, on_ok, stops_there}
use Rattle.filter_top.proofs.turn.happen.Goals as goal

pub returns-in_default-clause-legal : goal.returns-in_default-clause-legal
returns-in_default-clause-legal g c =
    stops_there (no_call (after_event (happening c.args.event.now) c.args.filter.now c.args.line.now) (g.P.Pairs.journal c.args.pairs.now))

pub returns-clause-legal : goal.returns-clause-legal
returns-clause-legal g c =
    subst (λ (s : State). Goes c.settle.result (at s c.args.line.now (due_of s.closes s.parts)) (g.P.Pairs.journal c.args.pairs.now) (g.P.Pairs.journal c.settle.new.pairs)
    (at c.step.new.self c.settle.new.line Free)) c.in-Ok.ensures c.settle.ensures.legal

pub returns-clause-pairs : goal.returns-clause-pairs
returns-clause-pairs g c =
    on_ok c.settle.result (c.settle.ensures.pairs ∙ c.requires.pairs ∙ ap (λ (s : State). s.last_pair) (sym c.in-Ok.ensures))
