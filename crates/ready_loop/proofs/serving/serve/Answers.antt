use Rattle.std.proofs.Common.{◌∙◌, Err, Result, ap, refl, subst, sym}
use Rattle.world_ports.specs.declared.answers.WorldFault.{WorldFault}
use Rattle.loop_model.specs.Dues.{Free}
use Rattle.loop_model.specs.LegalJournal.{in_state}
use Rattle.loop_model.specs.Lines.{IsExact, Line}
use Rattle.ready_loop.specs.Serving.{Opens, Running, Serves, Setting, Unbound, begun}
use Rattle.ready_loop.proofs.ServingLemmas.{serves_more}
use Rattle.ready_loop.proofs.serving.serve.Goals as goal

pub run-requires-clause-exact : goal.run-requires-clause-exact
run-requires-clause-exact g c =
    let state = g.A.Core.state c.args.agent.now in
    subst (λ (line : Line). IsExact state line) (sym c.new-hub.ensures) (record { each = λ thing. refl; once = tt })

pub returns-in-Ok-clause-serves : goal.returns-in-Ok-clause-serves
returns-in-Ok-clause-serves g c =
    let state = g.A.Core.state c.args.agent.now in
    let setting : Setting = record { path = c.args.path.now; until_idle = c.args.until_idle; state = state } in
    serves_more c.run.result setting Unbound (begun setting)
    (g.W.World.journal c.args.world.now) (g.W.World.journal c.open.new.world) (g.W.World.journal c.run.new.world)
    (c.in-Ok.ensures.opened c.args.until_idle state)
    (subst (λ (line : Line). Serves c.run.result setting (Running (in_state state line Free)) (g.W.World.journal c.open.new.world) (g.W.World.journal c.run.new.world))
    c.new-hub.ensures (c.run.ensures.serves c.args.path.now state))

pub returns-in-Err-Failed-clause-serves : goal.returns-in-Err-Failed-clause-serves
returns-in-Err-Failed-clause-serves g c =
    let state = g.A.Core.state c.args.agent.now in
    let setting : Setting = record { path = c.args.path.now; until_idle = c.args.until_idle; state = state } in
    subst (λ (r : Result (Unit {0}) WorldFault). Opens r setting (g.W.World.journal c.args.world.now) (g.W.World.journal c.open.new.world))
    (c.in-Err-Failed.is ∙ ap Err c.in-Err-Failed.field-0-is) (c.open.ensures.opened c.args.until_idle state)

pub returns-in-Err-Memory-clause-serves : goal.returns-in-Err-Memory-clause-serves
returns-in-Err-Memory-clause-serves g c =
    let state = g.A.Core.state c.args.agent.now in
    let setting : Setting = record { path = c.args.path.now; until_idle = c.args.until_idle; state = state } in
    subst (λ (r : Result (Unit {0}) WorldFault). Opens r setting (g.W.World.journal c.args.world.now) (g.W.World.journal c.open.new.world))
    (c.in-Err-Memory.is ∙ ap Err c.in-Err-Memory.field-0-is) (c.open.ensures.opened c.args.until_idle state)
