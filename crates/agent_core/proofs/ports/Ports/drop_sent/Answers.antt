use Rattle.std.proofs.Common.{◌∙◌, ap, sym}
use Rattle.agent_model.specs.Looks.{due_by}
use Rattle.agent_model.specs.Step.{took_some}
use Rattle.agent_model.proofs.PortsLemmas.{found_number}
use Rattle.agent_core.specs.Slots.{OpenPorts, port_of, ports_of}
use Rattle.agent_core.proofs.KeptLemmas.{found_set, found_slot, kept_rising, set_changed}
use Rattle.agent_core.proofs.TouchedLemmas.{listed-changed, spared-set, touched_room}
use Rattle.agent_core.proofs.ports.Ports.drop_sent.Goals as goal

pub place_near-requires : goal.place_near-requires
place_near-requires c = rw c.deref.ensures.value (kept_rising _ _ _ _ c.self.invariant.kept)

pub invariant_of-self : goal.invariant_of-self
invariant_of-self c =
    let is = rw c.deref.ensures.value at c.in-Some.ensures in
    let found = found_slot _ _ _ _ is c.index_mut.ensures.value in
    let same = found_number c.args.number (ports_of c.self.inside.slots.items) (port_of c.index_mut.result.now) found in
    rw c.put_in.ensures.items (listed-changed _ _ _ _ _ _ c.args.number c.in-Some.place c.drop_sent.new.slot c.index_mut.result.now _ c.self.invariant is found c.drop_sent.ensures.number c.drop_sent.ensures.door c.put_in.ensures.room)

pub returns-clause-ports : goal.returns-clause-ports
returns-clause-ports c =
    let is = rw c.deref.ensures.value at c.in-Some.ensures in
    let found = found_slot _ _ _ _ is c.index_mut.ensures.value in
    rw (← c.self.view_is) (
    ap (λ ports. let v : OpenPorts = record { ports = ports; last = c.self.inside.last; closed = c.self.inside.closed.items } in v)
    (set_changed c.self.inside.slots.items c.args.number c.in-Some.place c.drop_sent.new.slot (port_of c.index_mut.result.now) (took_some c.args.count) is found c.drop_sent.ensures.port))

pub returns-clause-front : goal.returns-clause-front
returns-clause-front c =
    let is = rw c.deref.ensures.value at c.in-Some.ensures in
    let found = found_slot _ _ _ _ is c.index_mut.ensures.value in
    c.drop_sent.ensures.front
    ∙ sym (ap due_by (found_set c.self.inside.slots.items c.args.number c.in-Some.place c.drop_sent.new.slot c.index_mut.result.now is found c.drop_sent.ensures.number c.drop_sent.ensures.door))

pub put_in-requires-clause-room : goal.put_in-requires-clause-room
put_in-requires-clause-room c =
    let is = rw c.deref.ensures.value at c.in-Some.ensures in
    touched_room _ _ _ _ c.args.number c.in-Some.place c.self.invariant.marked is

pub returns-clause-spared : goal.returns-clause-spared
returns-clause-spared c =
    let is = rw c.deref.ensures.value at c.in-Some.ensures in
    let found = found_slot _ _ _ _ is c.index_mut.ensures.value in
    rw (← c.self.view_is, c.put_in.ensures.items)
    (spared-set c.self.inside.slots.items c.args.number c.in-Some.place c.self.inside.last c.drop_sent.new.slot c.index_mut.result.now c.self.inside.closed.items c.self.inside.touched.items is found c.drop_sent.ensures.number c.drop_sent.ensures.door)
