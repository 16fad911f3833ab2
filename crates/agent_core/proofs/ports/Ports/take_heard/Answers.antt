use Rattle.std.proofs.Common.{◌≡◌, ◌∙◌, ap, Some}
use Rattle.agent_model.specs.Children.{unheard}
use Rattle.agent_model.specs.State.{Port, find_port}
use Rattle.agent_core.specs.Slots.{OpenPorts, port_of, ports_of}
use Rattle.agent_core.proofs.KeptLemmas.{found_slot, kept_rising, set_changed}
use Rattle.agent_core.proofs.TouchedLemmas.{listed-changed, spared-set, touched_room, among-put}
use Rattle.agent_core.proofs.ports.Ports.take_heard.Goals as goal

pub place_near-requires : goal.place_near-requires
place_near-requires c = rw c.deref.ensures.value (kept_rising _ _ _ _ c.self.invariant.kept)

pub invariant_of-self : goal.invariant_of-self
invariant_of-self c =
    let is = rw c.deref.ensures.value at c.in-Some.ensures in
    let found = found_slot _ _ _ _ is c.index_mut.ensures.value in
    rw c.put_in.ensures.items (listed-changed _ _ _ _ _ _ c.args.number c.in-Some.place c.take_heard.new.slot c.index_mut.result.now _ c.self.invariant is found c.take_heard.ensures.number c.take_heard.ensures.door c.put_in.ensures.room)

pub returns-clause-ports : goal.returns-clause-ports
returns-clause-ports c =
    let is = rw c.deref.ensures.value at c.in-Some.ensures in
    let found = found_slot _ _ _ _ is c.index_mut.ensures.value in
    rw (← c.self.view_is) (
    ap (λ ports. let v : OpenPorts = record { ports = ports; last = c.self.inside.last; closed = c.self.inside.closed.items } in v)
    (set_changed c.self.inside.slots.items c.args.number c.in-Some.place c.take_heard.new.slot (port_of c.index_mut.result.now) unheard is found c.take_heard.ensures.port))

pub returns-clause-heard : goal.returns-clause-heard
returns-clause-heard c =
    let is = rw c.deref.ensures.value at c.in-Some.ensures in
    let found = found_slot _ _ _ _ is c.index_mut.ensures.value in
    rw (← c.self.view_is) (λ (port : Port) (there : find_port c.args.number (ports_of c.self.inside.slots.items) ≡ Some port).
    let same : port_of c.index_mut.result.now ≡ port = cc in
    c.take_heard.ensures.heard ∙ ap (λ (p : Port). p.heard) same)

pub put_in-requires-clause-room : goal.put_in-requires-clause-room
put_in-requires-clause-room c =
    let is = rw c.deref.ensures.value at c.in-Some.ensures in
    touched_room _ _ _ _ c.args.number c.in-Some.place c.self.invariant.marked is

pub returns-clause-spared : goal.returns-clause-spared
returns-clause-spared c =
    let is = rw c.deref.ensures.value at c.in-Some.ensures in
    let found = found_slot _ _ _ _ is c.index_mut.ensures.value in
    rw (← c.self.view_is, c.put_in.ensures.items)
    (spared-set c.self.inside.slots.items c.args.number c.in-Some.place c.self.inside.last c.take_heard.new.slot c.index_mut.result.now c.self.inside.closed.items c.self.inside.touched.items is found c.take_heard.ensures.number c.take_heard.ensures.door)

pub returns-clause-touched : goal.returns-clause-touched
returns-clause-touched c = rw c.put_in.ensures.items (among-put c.args.number c.self.inside.touched.items)
