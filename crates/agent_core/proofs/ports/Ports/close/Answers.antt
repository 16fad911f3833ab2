use Rattle.std.proofs.Common.{◌≡◌, ◌∙◌, sym, ap}
use Rattle.agent_core.specs.Slots.{OpenPorts, ports_of}
use Rattle.agent_model.specs.State.{find_port, remove_port}
use Rattle.agent_model.proofs.PortsLemmas.{find_port-remove_port}
use Rattle.agent_core.proofs.KeptLemmas.{closed_room, kept_rising, ports_of-remove}
use Rattle.agent_core.proofs.TouchedLemmas.{listed-removed, spared-removed}
use Rattle.agent_core.proofs.ports.Ports.close.Goals as goal

pub place_near-requires : goal.place_near-requires
place_near-requires c = rw c.deref.ensures.value (kept_rising _ _ _ _ c.self.invariant.kept)

pub put_in-requires-clause-room : goal.put_in-requires-clause-room
put_in-requires-clause-room c =
    let is = rw c.deref.ensures.value at c.in-Some.ensures in
    closed_room _ _ _ _ c.args.number c.in-Some.place c.self.invariant.kept is

pub invariant_of-self : goal.invariant_of-self
invariant_of-self c =
    let is = rw c.deref.ensures.value at c.in-Some.ensures in
    rw (c.remove.ensures.items, c.put_in.ensures.items) (listed-removed _ _ _ _ _ _ c.args.number c.in-Some.place _ c.self.invariant is c.put_in.ensures.room)

pub returns-clause-ports : goal.returns-clause-ports
returns-clause-ports c =
    let is = rw c.deref.ensures.value at c.in-Some.ensures in
    let same : ports_of c.remove.new.self.items ≡ remove_port c.args.number (ports_of c.self.inside.slots.items) =
    ap ports_of c.remove.ensures.items ∙ ports_of-remove _ c.in-Some.place ∙ sym is.removed in
    rw (← c.self.view_is) (ap (λ ports. let after : OpenPorts = record { ports = ports; last = c.self.inside.last; closed = c.put_in.new.numbers.items } in after) same
    ∙ ap (λ closed. let after : OpenPorts = record { ports = remove_port c.args.number (ports_of c.self.inside.slots.items); last = c.self.inside.last; closed = closed } in after) c.put_in.ensures.items)

pub returns-clause-rising : goal.returns-clause-rising
returns-clause-rising c = rw (← c.self.view_is) c.self.invariant.kept.rising

pub returns-clause-spared : goal.returns-clause-spared
returns-clause-spared c =
    let is = rw c.deref.ensures.value at c.in-Some.ensures in
    rw (← c.self.view_is, c.remove.ensures.items, c.put_in.ensures.items)
    (spared-removed c.self.inside.slots.items c.args.number c.in-Some.place c.self.inside.last c.self.inside.closed.items c.self.inside.touched.items is)

pub returns-clause-gone : goal.returns-clause-gone
returns-clause-gone c =
    let is = rw c.deref.ensures.value at c.in-Some.ensures in
    let ports = ports_of c.self.inside.slots.items in
    ap (λ slots. find_port c.args.number (ports_of slots)) c.remove.ensures.items
    ∙ ap (find_port c.args.number) (ports_of-remove _ c.in-Some.place ∙ sym is.removed)
    ∙ find_port-remove_port c.args.number 0 c.self.inside.last ports c.self.invariant.kept.rising
