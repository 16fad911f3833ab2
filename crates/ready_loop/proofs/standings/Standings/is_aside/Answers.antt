use Rattle.std.proofs.Common.{◌∙◌, List, ap, sym, map}
use Rattle.world_ports.specs.declared.events.Door.{Door}
use Rattle.loop_model.specs.Things.{set_of}
use Rattle.loop_model.specs.declared.thing.Thing.TheVariants.{Accept, Read, Write}
use Rattle.loop_model.proofs.AsideLemmas.{aside-accept}
use Rattle.ready_loop.specs.Marks.{Standings, is_aside, standings_of}
use Rattle.ready_loop.specs.declared.marks.Mark.{Mark}
use Rattle.ready_loop.proofs.StoodLemmas.{aside-read_mark, aside-write_mark, is_set_aside, told}
use Rattle.ready_loop.proofs.standings.Standings.is_aside.Goals as goal

pub returns-in-Accept-clause-there : goal.returns-in-Accept-clause-there
returns-in-Accept-clause-there c =
    let view : Standings = standings_of c.self.inside.listed.items c.self.inside.aside.items c.self.inside.marks in
    told is_set_aside c.has_door.result view c.args.self.now c.args.thing (Accept c.in-Accept.door) c.self.view_is c.in-Accept.is
    (c.has_door.ensures
    ∙ ap (λ (doors : List Door). set_of (map Accept doors) (Accept c.in-Accept.door)) c.deref.ensures.value
    ∙ sym (aside-accept view.aside c.in-Accept.door))

pub returns-in-Read-clause-there : goal.returns-in-Read-clause-there
returns-in-Read-clause-there c =
    let listed = c.self.inside.listed.items in
    let aside = c.self.inside.aside.items in
    told is_set_aside c.is_aside.result (standings_of listed aside c.self.inside.marks) c.args.self.now c.args.thing
    (Read c.in-Read.port) c.self.view_is c.in-Read.is
    (c.is_aside.ensures ∙ ap (λ (mark : Mark). is_aside mark.read) c.of.ensures.mark
    ∙ sym (aside-read_mark listed aside c.in-Read.port c.self.inside.marks c.of.ensures.rising))

pub returns-in-Write-clause-there : goal.returns-in-Write-clause-there
returns-in-Write-clause-there c =
    let listed = c.self.inside.listed.items in
    let aside = c.self.inside.aside.items in
    told is_set_aside c.is_aside-in-Write.result (standings_of listed aside c.self.inside.marks) c.args.self.now c.args.thing
    (Write c.in-Write.port) c.self.view_is c.in-Write.is
    (c.is_aside-in-Write.ensures ∙ ap (λ (mark : Mark). is_aside mark.write) c.of-in-Write.ensures.mark
    ∙ sym (aside-write_mark listed aside c.in-Write.port c.self.inside.marks c.of-in-Write.ensures.rising))
