use Rattle.std.proofs.Common.{ap, sym}
use Rattle.agent_model.specs.Verdicts.{tell}
use Rattle.agent_model.proofs.PortsLemmas.{found_number}
use Rattle.agent_core.specs.Settlings.{verdict_of}
use Rattle.agent_core.specs.Slots.{OpenPorts, port_of, ports_of}
use Rattle.agent_core.proofs.HeldLemmas.{after_ok}
use Rattle.agent_core.proofs.HelperLemmas.{change_port-absent}
use Rattle.agent_core.proofs.KeptLemmas.{found_slot, kept_rising, set_changed}
use Rattle.agent_core.proofs.TouchedLemmas.{listed-changed, spared-set, touched_room}
use Rattle.agent_core.proofs.ports.Ports.tell.Goals as goal

pub place_near-requires : goal.place_near-requires
place_near-requires c = rw c.deref.ensures.value (kept_rising _ _ _ _ c.self.invariant.kept)

pub invariant_of-self : goal.invariant_of-self
invariant_of-self c =
    let is = rw c.deref.ensures.value at c.in-Some.ensures in
    let found = found_slot _ _ _ _ is c.index_mut.ensures.value in
    let same = found_number c.args.number (ports_of c.self.inside.slots.items) (port_of c.index_mut.result.now) found in
    rw c.put_in.ensures.items (listed-changed _ _ _ _ _ _ c.args.number c.in-Some.place c.tell.new.slot c.index_mut.result.now _ c.self.invariant is found c.tell.ensures.number c.tell.ensures.door c.put_in.ensures.room)

pub returns-in-Some-clause-ports : goal.returns-in-Some-clause-ports
returns-in-Some-clause-ports c =
    let is = rw c.deref.ensures.value at c.in-Some.ensures in
    let found = found_slot _ _ _ _ is c.index_mut.ensures.value in
    rw (← c.self.view_is) (after_ok c.tell.result (λ told.
    ap (λ ports. let v : OpenPorts = record { ports = ports; last = c.self.inside.last; closed = c.self.inside.closed.items } in v)
    (set_changed c.self.inside.slots.items c.args.number c.in-Some.place c.tell.new.slot (port_of c.index_mut.result.now) (tell (verdict_of c.args.answer.now)) is found told)) c.tell.ensures.port)

pub returns-in-None-clause-ports : goal.returns-in-None-clause-ports
returns-in-None-clause-ports c =
    let absent = rw c.deref.ensures.value at c.in-None.ensures in
    rw (← c.self.view_is) (ap (λ ports. let v : OpenPorts = record { ports = ports; last = c.self.inside.last; closed = c.self.inside.closed.items } in v)
    (sym (change_port-absent c.args.number (tell (verdict_of c.args.answer.now)) (ports_of c.self.inside.slots.items) absent)))

pub put_in-requires-clause-room : goal.put_in-requires-clause-room
put_in-requires-clause-room c =
    let is = rw c.deref.ensures.value at c.in-Some.ensures in
    touched_room _ _ _ _ c.args.number c.in-Some.place c.self.invariant.marked is

pub returns-in-Some-clause-spared : goal.returns-in-Some-clause-spared
returns-in-Some-clause-spared c =
    let is = rw c.deref.ensures.value at c.in-Some.ensures in
    let found = found_slot _ _ _ _ is c.index_mut.ensures.value in
    rw (← c.self.view_is, c.put_in.ensures.items)
    (spared-set c.self.inside.slots.items c.args.number c.in-Some.place c.self.inside.last c.tell.new.slot c.index_mut.result.now c.self.inside.closed.items c.self.inside.touched.items is found c.tell.ensures.number c.tell.ensures.door)
