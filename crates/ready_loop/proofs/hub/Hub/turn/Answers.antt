use Rattle.std.proofs.Common.{subst}
use Rattle.loop_model.specs.Lines.{Line}
use Rattle.loop_model.specs.Queues.{AreApart}
use Rattle.ready_loop.proofs.KeepingLemmas.{exact_of, ordered_of, then_ok}
use Rattle.ready_loop.proofs.hub.Hub.turn.Goals as goal

pub serve-turned-requires : goal.serve-turned-requires
serve-turned-requires g c = record {
  ready = record {
    fit = record {
      orderly = c.requires.orderly;
      ordered = ordered_of (g.A.Core.state c.args.agent.now) c.args.self.now c.requires.exact c.requires.quiet;
    };
    apart = c.requires.exact.once;
    ports = c.requires.ports;
    second = c.requires.second;
  };
}

pub returns-clause-orderly : goal.returns-clause-orderly
returns-clause-orderly g c = then_ok c.serve-turned.result c.serve-turned.ensures.fit (λ fit. fit.orderly)

pub returns-clause-exact : goal.returns-clause-exact
returns-clause-exact g c =
    then_ok c.serve-turned.result c.serve-turned.ensures.fit (λ fit.
    exact_of (g.A.Core.state c.serve-turned.new.agent) c.serve-turned.new.self fit.ordered
    (subst (λ (line : Line). AreApart line.queue) c.self.view_is c.stands_once.ensures))

pub returns-clause-quiet : goal.returns-clause-quiet
returns-clause-quiet g c = then_ok c.serve-turned.result c.serve-turned.ensures.fit (λ fit. fit.ordered.quiet)
