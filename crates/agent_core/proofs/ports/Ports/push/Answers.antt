use Rattle.std.proofs.Common.{◌≡◌, ◌∙◌, ap, sym}
use Rattle.frame_core.specs.Looks.{front_of}
use Rattle.agent_model.specs.Children.{heard_more}
use Rattle.agent_model.specs.Looks.{due, due_by}
use Rattle.agent_core.specs.declared.slot.Slot.{Slot}
use Rattle.agent_core.specs.Slots.{OpenPorts, port_of}
use Rattle.agent_core.proofs.HeldLemmas.{after_ok, value_ok}
use Rattle.agent_core.proofs.KeptLemmas.{found_set, found_slot, kept_rising, set_changed}
use Rattle.agent_core.proofs.TouchedLemmas.{listed-changed, spared-set, touched_room}
use Rattle.agent_core.proofs.ports.Ports.push.Goals as goal

pub place_near-requires : goal.place_near-requires
place_near-requires c = rw c.deref.ensures.value (kept_rising _ _ _ _ c.self.invariant.kept)

pub invariant_of-self : goal.invariant_of-self
invariant_of-self c =
    let is = rw c.deref.ensures.value at c.in-Some.ensures in
    let found = found_slot _ _ _ _ is c.index_mut.ensures.value in
    rw c.put_in.ensures.items (listed-changed _ _ _ _ _ _ c.args.number c.in-Some.place c.push.new.slot c.index_mut.result.now _ c.self.invariant is found c.push.ensures.number c.push.ensures.door c.put_in.ensures.room)

pub returns-clause-ports : goal.returns-clause-ports
returns-clause-ports c =
    let is = rw c.deref.ensures.value at c.in-Some.ensures in
    let found = found_slot _ _ _ _ is c.index_mut.ensures.value in
    rw (← c.self.view_is) (after_ok c.push.result (λ same.
    ap (λ ports. let v : OpenPorts = record { ports = ports; last = c.self.inside.last; closed = c.self.inside.closed.items } in v)
    (set_changed c.self.inside.slots.items c.args.number c.in-Some.place c.push.new.slot (port_of c.index_mut.result.now) (heard_more c.args.piece.now) is found same)) c.push.ensures.port)

pub returns-clause-front : goal.returns-clause-front
returns-clause-front c =
    let is = rw c.deref.ensures.value at c.in-Some.ensures in
    let found = found_slot _ _ _ _ is c.index_mut.ensures.value in
    let slot : Slot = c.push.new.slot in
    value_ok (λ look. front_of look ≡ due (port_of slot)) _ c.push.result (λ look told.
    told ∙ sym (ap due_by (found_set c.self.inside.slots.items c.args.number c.in-Some.place slot c.index_mut.result.now is found c.push.ensures.number c.push.ensures.door))) c.push.ensures.front

pub put_in-requires-clause-room : goal.put_in-requires-clause-room
put_in-requires-clause-room c =
    let is = rw c.deref.ensures.value at c.in-Some.ensures in
    touched_room _ _ _ _ c.args.number c.in-Some.place c.self.invariant.marked is

pub returns-clause-spared : goal.returns-clause-spared
returns-clause-spared c =
    let is = rw c.deref.ensures.value at c.in-Some.ensures in
    let found = found_slot _ _ _ _ is c.index_mut.ensures.value in
    rw (← c.self.view_is, c.put_in.ensures.items)
    (spared-set c.self.inside.slots.items c.args.number c.in-Some.place c.self.inside.last c.push.new.slot c.index_mut.result.now c.self.inside.closed.items c.self.inside.touched.items is found c.push.ensures.number c.push.ensures.door)
