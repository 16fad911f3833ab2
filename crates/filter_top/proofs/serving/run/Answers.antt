use Rattle.std.proofs.Common.{◌∙◌, arith, subst}
use Rattle.filter_model.specs.Answered.{Free, at}
use Rattle.filter_top.specs.Moves.{Turns}
use Rattle.filter_top.specs.declared.status.FilterStatus.TheVariants as status
use Rattle.filter_top.specs.declared.turn.Turn.{Turn}
use Rattle.filter_top.proofs.MoveLemmas.{moves_of, moves_on, serves_later}
use Rattle.filter_top.proofs.serving.run.Goals as goal

pub turns-preserved : goal.turns-preserved
turns-preserved g c = (
  tt,
  tt,
  moves_on c.turns.invariant.2 (moves_of (subst (λ (t : Turn). Turns t (at c.turns.filter c.turns.line Free) (g.P.Pairs.journal c.turns.pairs) (g.P.Pairs.journal c.serve_next.new.pairs) (at c.serve_next.new.filter c.serve_next.new.line Free)) c.in-Served.is c.serve_next.ensures.legal)),
  c.serve_next.ensures.pairs c.in-Served.is,
  c.serve_next.ensures.room ∙ c.turns.invariant.4,
  omega (arith, c.turns.invariant.5, c.serve_next.ensures.later),
)

pub returns-in-Over-clause-serves : goal.returns-in-Over-clause-serves
returns-in-Over-clause-serves g c =
    serves_later status.Done (at c.args.filter.now c.args.line.now Free) (at c.turns.filter c.turns.line Free) (g.P.Pairs.journal c.args.pairs.now) (g.P.Pairs.journal c.turns.pairs) (g.P.Pairs.journal c.serve_next.new.pairs)
    c.turns.invariant.2 (subst (λ (t : Turn). Turns t (at c.turns.filter c.turns.line Free) (g.P.Pairs.journal c.turns.pairs) (g.P.Pairs.journal c.serve_next.new.pairs) (at c.serve_next.new.filter c.serve_next.new.line Free)) c.in-Over.is c.serve_next.ensures.legal)

pub returns-in-Refused-clause-serves : goal.returns-in-Refused-clause-serves
returns-in-Refused-clause-serves g c =
    serves_later status.PollFault (at c.args.filter.now c.args.line.now Free) (at c.turns.filter c.turns.line Free) (g.P.Pairs.journal c.args.pairs.now) (g.P.Pairs.journal c.turns.pairs) (g.P.Pairs.journal c.serve_next.new.pairs)
    c.turns.invariant.2 (subst (λ (t : Turn). Turns t (at c.turns.filter c.turns.line Free) (g.P.Pairs.journal c.turns.pairs) (g.P.Pairs.journal c.serve_next.new.pairs) (at c.serve_next.new.filter c.serve_next.new.line Free)) c.in-Refused.is c.serve_next.ensures.legal)

pub returns-in-Memory-clause-serves : goal.returns-in-Memory-clause-serves
returns-in-Memory-clause-serves g c =
    serves_later status.Memory (at c.args.filter.now c.args.line.now Free) (at c.turns.filter c.turns.line Free) (g.P.Pairs.journal c.args.pairs.now) (g.P.Pairs.journal c.turns.pairs) (g.P.Pairs.journal c.serve_next.new.pairs)
    c.turns.invariant.2 (subst (λ (t : Turn). Turns t (at c.turns.filter c.turns.line Free) (g.P.Pairs.journal c.turns.pairs) (g.P.Pairs.journal c.serve_next.new.pairs) (at c.serve_next.new.filter c.serve_next.new.line Free)) c.in-Memory.is c.serve_next.ensures.legal)
