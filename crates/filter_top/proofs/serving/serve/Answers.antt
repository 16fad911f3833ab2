use Rattle.std.proofs.Common.{◌∙◌, Err, List, Ok, Result, [], ap, subst, true}
use Rattle.world_ports.specs.declared.answers.WorldFault.{WorldFault}
use Rattle.world_ports.specs.declared.answers.WorldFault.TheVariants.{Failed, Memory}
use Rattle.pair_ports.specs.declared.entry.PairEntry.TheVariants as entry
use Rattle.filter_model.specs.declared.thing.Thing.{Thing}
use Rattle.filter_model.specs.Answered.{Binding, Free, after_bind, at}
use Rattle.filter_top.specs.Program.{Serves}
use Rattle.filter_top.proofs.CallLemmas.{bind_any}
use Rattle.filter_top.proofs.MoveLemmas.{no_call, one_call, serves_later, stops_short, stops_there, told_at, up_to}
use Rattle.filter_top.proofs.serving.serve.Goals as goal

pub returns-in_default-clause-serves : goal.returns-in_default-clause-serves
returns-in_default-clause-serves g c =
    stops_there (no_call (at c.args.filter.now [] (Binding c.args.path.now c.args.upstream.now)) (g.P.Pairs.journal c.args.pairs.now))

pub returns-in-Ok-bind-clause-serves : goal.returns-in-Ok-bind-clause-serves
returns-in-Ok-bind-clause-serves g c =
    let state = c.args.filter.now in
    let path = c.args.path.now in
    let upstream = c.args.upstream.now in
    serves_later c.run.result (at state [] (Binding path upstream)) (at state [] Free) (g.P.Pairs.journal c.args.pairs.now) (g.P.Pairs.journal c.bind.new.self) (g.P.Pairs.journal c.run.new.pairs)
    (one_call (at state [] (Binding path upstream)) (at state [] Free) (g.P.Pairs.journal c.args.pairs.now) (g.P.Pairs.journal c.bind.new.self)
    (entry.Bind path upstream (Ok tt)) (bind_any state [] path upstream (Ok tt)) c.in-Ok-bind.ensures.told)
    (subst (λ (line : List Thing). Serves c.run.result (at state line Free) (g.P.Pairs.journal c.bind.new.self) (g.P.Pairs.journal c.run.new.pairs)) c.new-line.ensures c.run.ensures.serves)

pub returns-in-Err-Failed-clause-serves : goal.returns-in-Err-Failed-clause-serves
returns-in-Err-Failed-clause-serves g c =
    let state = c.args.filter.now in
    let path = c.args.path.now in
    let upstream = c.args.upstream.now in
    let answer : Result (Unit {0}) WorldFault = Err Failed in
    record {
      path = path;
      upstream = upstream;
      moves = up_to (at state [] (Binding path upstream)) (after_bind answer state []) (g.P.Pairs.journal c.args.pairs.now) (g.P.Pairs.journal c.bind.new.self)
          (entry.Bind path upstream answer) (bind_any state [] path upstream answer)
          (told_at (λ r. entry.Bind path upstream r) (g.P.Pairs.journal c.args.pairs.now) (g.P.Pairs.journal c.bind.new.self) (c.in-Err-Failed.is ∙ ap Err c.in-Err-Failed.field-0-is) c.bind.ensures.told);
    }

pub returns-clause-serves : goal.returns-clause-serves
returns-clause-serves g c =
    let state = c.args.filter.now in
    let path = c.args.path.now in
    let upstream = c.args.upstream.now in
    let answer : Result (Unit {0}) WorldFault = Err Memory in
    stops_short (at state [] (Binding path upstream)) (after_bind answer state []) (g.P.Pairs.journal c.args.pairs.now) (g.P.Pairs.journal c.bind.new.self) true
    (entry.Bind path upstream answer) (bind_any state [] path upstream answer)
    (told_at (λ r. entry.Bind path upstream r) (g.P.Pairs.journal c.args.pairs.now) (g.P.Pairs.journal c.bind.new.self) (c.in-Err-Memory.is ∙ ap Err c.in-Err-Memory.field-0-is) c.bind.ensures.told)
