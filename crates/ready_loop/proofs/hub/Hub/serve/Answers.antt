use Rattle.std.proofs.Common.{inl, Some, List, [], length, ◌==◌, true, ap, sym, ◌∙◌, ◌≡◌}
use Rattle.world_ports.specs.declared.events.Job.{Job}
use Rattle.agent_model.specs.State.{starts}
use Rattle.loop_model.specs.Dues.{Free}
use Rattle.loop_model.specs.LegalJournal.{in_state}
use Rattle.loop_model.specs.Servable.{has_job}
use Rattle.loop_model.specs.declared.thing.Thing.{Thing}
use Rattle.loop_model.specs.declared.thing.Thing.TheVariants.{Accept, Read, Write}
use Rattle.ready_loop.proofs.IdleLemmas.{idle-is, job-waits, none-front}
use Rattle.ready_loop.proofs.KeepingLemmas.{fit_is, fit_served, gone_served, on_ok, ordered_is}
use Rattle.ready_loop.proofs.LineLemmas.{front-first}
use Rattle.ready_loop.proofs.RoundingLemmas.{keeps-served, round-served, rounds-empty}
use Rattle.ready_loop.proofs.TurningLemmas.{no_call, stops_there}
use Rattle.ready_loop.proofs.hub.Hub.serve.Goals as goal

pub returns-in_default-take-clause-legal : goal.returns-in_default-take-clause-legal
returns-in_default-take-clause-legal g c =
    inl (stops_there (no_call _ (g.W.World.journal c.args.world.now)))

pub look-requires-clause-idle : goal.look-requires-clause-idle
look-requires-clause-idle g c =
    let state = g.A.Core.state c.args.agent.now in
    let queue = c.self.inside.queue.queue in
    let empty : queue ≡ [] = none-front queue (sym c.first.ensures ∙ c.in-None.is) in
    sym (idle-is state c.self.inside.queue true
    (ordered_is state c.args.self.now c.self.inside.queue c.self.view_is c.requires.ready.fit.ordered)
    (ap (λ (jobs : List Job). length jobs == 0) c.in_default.ensures)
    (ap (λ (ts : List Thing). length ts == 0) empty))

pub accept-requires-clause-next : goal.accept-requires-clause-next
accept-requires-clause-next g c =
    let state = g.A.Core.state c.args.agent.now in
    let ordered = ordered_is state c.args.self.now c.self.inside.queue c.self.view_is c.requires.ready.fit.ordered in
    front-first state c.self.inside.queue.queue (Accept c.in-Some-Accept.door) ordered.listed
    (sym (ap Some c.in-Some-Accept.field-0-is) ∙ sym c.in-Some-Accept.is ∙ c.first.ensures)

pub read-requires-clause-next : goal.read-requires-clause-next
read-requires-clause-next g c =
    let state = g.A.Core.state c.args.agent.now in
    let ordered = ordered_is state c.args.self.now c.self.inside.queue c.self.view_is c.requires.ready.fit.ordered in
    front-first state c.self.inside.queue.queue (Read c.in-Some-Read.port) ordered.listed
    (sym (ap Some c.in-Some-Read.field-0-is) ∙ sym c.in-Some-Read.is ∙ c.first.ensures)

pub write-requires-clause-next : goal.write-requires-clause-next
write-requires-clause-next g c =
    let state = g.A.Core.state c.args.agent.now in
    let ordered = ordered_is state c.args.self.now c.self.inside.queue c.self.view_is c.requires.ready.fit.ordered in
    front-first state c.self.inside.queue.queue (Write c.in-Some-Write.port) ordered.listed
    (sym (ap Some c.in-Some-Write.field-0-is) ∙ sym c.in-Some-Write.is ∙ c.first.ensures)

pub returns-in-Some-clause-round : goal.returns-in-Some-clause-round
returns-in-Some-clause-round g c =
    let jobs = starts (g.A.Core.state c.args.agent.now) in
    keeps-served c.start.result c.served.result (has_job jobs) c.self.inside.queue c.args.self.now c.start.new.queue.queue
    c.served.ensures c.self.view_is (job-waits c.in-Some.job jobs c.in-Some.ensures) c.start.ensures.round

pub returns-in-Some-Accept-clause-round : goal.returns-in-Some-Accept-clause-round
returns-in-Some-Accept-clause-round g c =
    round-served c.accept.result c.served-in-Some-Accept.result (Accept c.in-Some-Accept.door) (has_job (starts (g.A.Core.state c.args.agent.now))) c.self.inside.queue
    c.args.self.now c.accept.new.queue.queue c.served-in-Some-Accept.ensures c.self.view_is
    (ap has_job c.in_default.ensures) c.accept.ensures.round

pub returns-in-Ok-clause-round : goal.returns-in-Ok-clause-round
returns-in-Ok-clause-round g c =
    round-served c.read.result c.served-in-Some-Read.result (Read c.in-Some-Read.port) (has_job (starts (g.A.Core.state c.args.agent.now))) c.self.inside.queue
    c.args.self.now c.read.new.queue.queue c.served-in-Some-Read.ensures c.self.view_is
    (ap has_job c.in_default.ensures) c.read.ensures.round

pub returns-in-Some-Write-clause-round : goal.returns-in-Some-Write-clause-round
returns-in-Some-Write-clause-round g c =
    round-served c.write.result c.served-in-Some-Write.result (Write c.in-Some-Write.port) (has_job (starts (g.A.Core.state c.args.agent.now))) c.self.inside.queue
    c.args.self.now c.write.new.queue.queue c.served-in-Some-Write.ensures c.self.view_is
    (ap has_job c.in_default.ensures) c.write.ensures.round

pub returns-in-None-clause-round : goal.returns-in-None-clause-round
returns-in-None-clause-round g c =
    on_ok c.look.result
    (rounds-empty (has_job (starts (g.A.Core.state c.args.agent.now))) c.self.inside.queue c.args.self.now c.look.new.queue.queue
    (none-front c.self.inside.queue.queue (sym c.first.ensures ∙ c.in-None.is)) c.self.view_is
    (ap has_job c.in_default.ensures))

pub returns-in-Some-clause-fit : goal.returns-in-Some-clause-fit
returns-in-Some-clause-fit g c =
    let state = g.A.Core.state c.args.agent.now in
    fit_served c.start.result c.served.result (in_state state c.self.inside.queue Free)
    (g.W.World.journal c.args.world.now) (g.W.World.journal c.start.new.world) (g.A.Core.state c.start.new.agent) c.start.new.queue
    c.served.ensures c.start.ensures.legal (fit_is state c.args.self.now c.self.inside.queue c.self.view_is c.requires.ready.fit)

pub returns-in-Some-clause-gone : goal.returns-in-Some-clause-gone
returns-in-Some-clause-gone g c =
    gone_served c.start.result c.served.result _ _ _ _ _ _ c.served.ensures c.start.ensures.gone

pub returns-in-Some-Accept-clause-fit : goal.returns-in-Some-Accept-clause-fit
returns-in-Some-Accept-clause-fit g c =
    let state = g.A.Core.state c.args.agent.now in
    fit_served c.accept.result c.served-in-Some-Accept.result (in_state state c.self.inside.queue Free)
    (g.W.World.journal c.args.world.now) (g.W.World.journal c.accept.new.world) (g.A.Core.state c.accept.new.agent) c.accept.new.queue
    c.served-in-Some-Accept.ensures c.accept.ensures.legal (fit_is state c.args.self.now c.self.inside.queue c.self.view_is c.requires.ready.fit)

pub returns-in-Some-Accept-clause-gone : goal.returns-in-Some-Accept-clause-gone
returns-in-Some-Accept-clause-gone g c =
    gone_served c.accept.result c.served-in-Some-Accept.result _ _ _ _ _ _ c.served-in-Some-Accept.ensures c.accept.ensures.gone

pub returns-in-Ok-clause-fit : goal.returns-in-Ok-clause-fit
returns-in-Ok-clause-fit g c =
    let state = g.A.Core.state c.args.agent.now in
    fit_served c.read.result c.served-in-Some-Read.result (in_state state c.self.inside.queue Free)
    (g.W.World.journal c.args.world.now) (g.W.World.journal c.read.new.world) (g.A.Core.state c.read.new.agent) c.read.new.queue
    c.served-in-Some-Read.ensures c.read.ensures.legal (fit_is state c.args.self.now c.self.inside.queue c.self.view_is c.requires.ready.fit)

pub returns-in-Ok-clause-gone : goal.returns-in-Ok-clause-gone
returns-in-Ok-clause-gone g c =
    gone_served c.read.result c.served-in-Some-Read.result _ _ _ _ _ _ c.served-in-Some-Read.ensures c.read.ensures.gone

pub returns-in-Some-Write-clause-fit : goal.returns-in-Some-Write-clause-fit
returns-in-Some-Write-clause-fit g c =
    let state = g.A.Core.state c.args.agent.now in
    fit_served c.write.result c.served-in-Some-Write.result (in_state state c.self.inside.queue Free)
    (g.W.World.journal c.args.world.now) (g.W.World.journal c.write.new.world) (g.A.Core.state c.write.new.agent) c.write.new.queue
    c.served-in-Some-Write.ensures c.write.ensures.legal (fit_is state c.args.self.now c.self.inside.queue c.self.view_is c.requires.ready.fit)

pub returns-in-Some-Write-clause-gone : goal.returns-in-Some-Write-clause-gone
returns-in-Some-Write-clause-gone g c =
    gone_served c.write.result c.served-in-Some-Write.result _ _ _ _ _ _ c.served-in-Some-Write.ensures c.write.ensures.gone
