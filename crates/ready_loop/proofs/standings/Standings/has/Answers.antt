use Rattle.std.proofs.Common.{◌∙◌, List, ap, ◌||◌, map}
use Rattle.world_ports.specs.declared.events.Door.{Door}
use Rattle.loop_model.specs.Things.{set_of}
use Rattle.loop_model.specs.declared.thing.Thing.TheVariants.{Accept, Read, Write}
use Rattle.ready_loop.specs.Marks.{is_aside, is_listed, standings_of}
use Rattle.ready_loop.specs.declared.marks.Mark.{Mark}
use Rattle.ready_loop.proofs.StoodLemmas.{has-accept, has-read, has-write, is_ready, told}
use Rattle.ready_loop.proofs.standings.Standings.has.Goals as goal

pub returns-in-Accept-clause-there : goal.returns-in-Accept-clause-there
returns-in-Accept-clause-there c =
    let listed = c.self.inside.listed.items in
    let aside = c.self.inside.aside.items in
    told is_ready c.has_either.result (standings_of listed aside c.self.inside.marks) c.args.self.now c.args.thing
    (Accept c.in-Accept.door) c.self.view_is c.in-Accept.is
    (c.has_either.ensures
    ∙ ap (λ (doors : List Door). set_of (map Accept doors) (Accept c.in-Accept.door) || set_of (map Accept c.deref-in-Accept.result.now) (Accept c.in-Accept.door)) c.deref.ensures.value
    ∙ ap (λ (doors : List Door). set_of (map Accept listed) (Accept c.in-Accept.door) || set_of (map Accept doors) (Accept c.in-Accept.door)) c.deref-in-Accept.ensures.value
    ∙ has-accept listed aside c.in-Accept.door c.self.inside.marks)

pub returns-in-Read-clause-there : goal.returns-in-Read-clause-there
returns-in-Read-clause-there c =
    let listed = c.self.inside.listed.items in
    let aside = c.self.inside.aside.items in
    told is_ready c.is_ready.result (standings_of listed aside c.self.inside.marks) c.args.self.now c.args.thing
    (Read c.in-Read.port) c.self.view_is c.in-Read.is
    (c.is_ready.ensures ∙ ap (λ (mark : Mark). is_listed mark.read || is_aside mark.read) c.of.ensures.mark
    ∙ has-read listed aside c.in-Read.port c.self.inside.marks c.of.ensures.rising)

pub returns-in-Write-clause-there : goal.returns-in-Write-clause-there
returns-in-Write-clause-there c =
    let listed = c.self.inside.listed.items in
    let aside = c.self.inside.aside.items in
    told is_ready c.is_ready-in-Write.result (standings_of listed aside c.self.inside.marks) c.args.self.now c.args.thing
    (Write c.in-Write.port) c.self.view_is c.in-Write.is
    (c.is_ready-in-Write.ensures ∙ ap (λ (mark : Mark). is_listed mark.write || is_aside mark.write) c.of-in-Write.ensures.mark
    ∙ has-write listed aside c.in-Write.port c.self.inside.marks c.of-in-Write.ensures.rising)
