use Rattle.std.proofs.Common.{◌≡◌, ◌∙◌, Some, ap}
use Rattle.agent_model.specs.State.{Port, find_port}
use Rattle.agent_model.proofs.PortsLemmas.{found_number}
use Rattle.confirm_desk.specs.Confirmations.{find_asker}
use Rattle.agent_core.specs.Served.{served_at}
use Rattle.agent_core.specs.Slots.{OpenPorts, port_of, ports_of}
use Rattle.agent_core.proofs.HeldLemmas.{after_ok}
use Rattle.agent_core.proofs.KeptLemmas.{found_slot, kept_rising, same_found, serve_changed}
use Rattle.agent_core.proofs.TouchedLemmas.{listed-changed, spared-set, touched_room}
use Rattle.agent_core.proofs.ports.Ports.serve.Goals as goal

pub place_near-requires : goal.place_near-requires
place_near-requires c = rw c.deref.ensures.value (kept_rising _ _ _ _ c.self.invariant.kept)

pub serve-requires-clause-due : goal.serve-requires-clause-due
serve-requires-clause-due c =
    let is = rw c.deref.ensures.value at c.in-Some.ensures in
    let found = found_slot _ _ _ _ is c.index_mut.ensures.value in
    rw (← c.self.view_is, found) at c.requires.due

pub invariant_of-self : goal.invariant_of-self
invariant_of-self c =
    let is = rw c.deref.ensures.value at c.in-Some.ensures in
    let found = found_slot _ _ _ _ is c.index_mut.ensures.value in
    let same = found_number c.args.number (ports_of c.self.inside.slots.items) (port_of c.index_mut.result.now) found in
    rw c.put_in.ensures.items (listed-changed _ _ _ _ _ _ c.args.number c.in-Some.place c.serve.new.slot c.index_mut.result.now _ c.self.invariant is found c.serve.ensures.number c.serve.ensures.door c.put_in.ensures.room)

pub returns-clause-ports : goal.returns-clause-ports
returns-clause-ports c =
    let is = rw c.deref.ensures.value at c.in-Some.ensures in
    let found = found_slot _ _ _ _ is c.index_mut.ensures.value in
    rw (← c.self.view_is) (λ (port : Port) (there : find_port c.args.number (ports_of c.self.inside.slots.items) ≡ Some port).
    after_ok c.serve.result (λ told.
    ap (λ ports. let v : OpenPorts = record { ports = ports; last = c.self.inside.last; closed = c.self.inside.closed.items } in v)
    (serve_changed c.self.inside.slots.items c.args.number c.in-Some.place c.serve.new.slot c.index_mut.result.now c.args.wall c.args.body_len c.args.keys.now c.args.under_way.now port is found there told)) c.serve.ensures.port)

pub returns-clause-keys : goal.returns-clause-keys
returns-clause-keys c =
    let is = rw c.deref.ensures.value at c.in-Some.ensures in
    let found = found_slot _ _ _ _ is c.index_mut.ensures.value in
    rw (← c.self.view_is) (λ (port : Port) (there : find_port c.args.number (ports_of c.self.inside.slots.items) ≡ Some port).
    after_ok c.serve.result (λ kept.
    kept ∙ ap (λ (p : Port). (served_at c.args.body_len c.args.wall p c.args.keys.now c.args.under_way.now).held) (same_found c.self.inside.slots.items c.args.number c.index_mut.result.now port found there)) c.serve.ensures.keys)

pub returns-clause-under_way : goal.returns-clause-under_way
returns-clause-under_way c =
    let is = rw c.deref.ensures.value at c.in-Some.ensures in
    let found = found_slot _ _ _ _ is c.index_mut.ensures.value in
    rw (← c.self.view_is) (λ (port : Port) (there : find_port c.args.number (ports_of c.self.inside.slots.items) ≡ Some port).
    after_ok c.serve.result (λ left.
    left ∙ ap (λ (p : Port). (served_at c.args.body_len c.args.wall p c.args.keys.now c.args.under_way.now).work.under_way) (same_found c.self.inside.slots.items c.args.number c.index_mut.result.now port found there)) c.serve.ensures.under_way)

pub serve-requires-clause-alone : goal.serve-requires-clause-alone
serve-requires-clause-alone c =
    let is = rw c.deref.ensures.value at c.in-Some.ensures in
    let found = found_slot _ _ _ _ is c.index_mut.ensures.value in
    let same = found_number c.args.number (ports_of c.self.inside.slots.items) (port_of c.index_mut.result.now) found in
    ap (λ n. find_asker n c.args.under_way.now.confirmations) same ∙ c.requires.alone

pub put_in-requires-clause-room : goal.put_in-requires-clause-room
put_in-requires-clause-room c =
    let is = rw c.deref.ensures.value at c.in-Some.ensures in
    touched_room _ _ _ _ c.args.number c.in-Some.place c.self.invariant.marked is

pub returns-clause-spared : goal.returns-clause-spared
returns-clause-spared c =
    let is = rw c.deref.ensures.value at c.in-Some.ensures in
    let found = found_slot _ _ _ _ is c.index_mut.ensures.value in
    rw (← c.self.view_is, c.put_in.ensures.items)
    (spared-set c.self.inside.slots.items c.args.number c.in-Some.place c.self.inside.last c.serve.new.slot c.index_mut.result.now c.self.inside.closed.items c.self.inside.touched.items is found c.serve.ensures.number c.serve.ensures.door)
