use Rattle.std.proofs.Common.{◌∙◌, ◌<◌, ◌^◌, ◌+◌, suc, ap, add-one, arith, sym, Bool, List, ℕ, if◌then◌else◌, [], ◌∷◌}
use Rattle.agent_model.specs.NumberLists.{put_all}
use Rattle.agent_model.specs.Step.{admitted}
use Rattle.lists.specs.Rising.{inserted}
use Rattle.lists.proofs.RisingLemmas.{length-inserted}
use Rattle.agent_core.specs.Slots.{MarkedPorts, OpenPorts, open_of, ports_of}
use Rattle.agent_core.proofs.TouchedLemmas.{listed-refused, spared-refused}
use Rattle.agent_core.proofs.ports.Ports.join.Goals as goal

pub put_in-requires-clause-room : goal.put_in-requires-clause-room
put_in-requires-clause-room c =
    let longer = length-inserted (c.self.inside.last + 1) c.self.inside.closed.items in
    rw (c.in_ok-reserve.ensures.items) (omega (arith, longer, c.in_ok-reserve.ensures.ok))

pub invariant_of-self-else-has_room : goal.invariant_of-self-else-has_room
invariant_of-self-else-has_room c =
    let last = ap (λ (v : MarkedPorts). v.last) c.self.view_is in
    let below : suc c.self.inside.last < 2 ^ 64 = omega (arith, c.requires, last) in
    rw (c.put_in.ensures.items, c.in_ok-reserve.ensures.items, c.in_ok-reserve-2.ensures.items, add-one)
    (listed-refused _ _ _ _ _ _ _ _ c.self.invariant (omega (arith, c.in_ok-reserve.ensures.ok, c.put_in.ensures.room))
    (omega (arith, c.in_ok-reserve.ensures.ok, c.in_ok-reserve-2.ensures.ok, c.capacity.ensures)) below)

pub returns-in_ok-admit-clause-ports : goal.returns-in_ok-admit-clause-ports
returns-in_ok-admit-clause-ports c =
    let old = open_of c.args.self.now in
    let to : Bool → OpenPorts =
    λ b. record { ports = admitted b (suc old.last) c.args.door old.ports; last = suc old.last; closed = put_all old.closed (if b then [] else suc old.last ∷ []) } in
    c.in_ok-admit.ensures.ports ∙ sym (ap to c.if-has_room.true)

pub returns-in_ok-reserve-2-clause-ports : goal.returns-in_ok-reserve-2-clause-ports
returns-in_ok-reserve-2-clause-ports c =
    let last = c.self.inside.last in
    let closed = c.self.inside.closed.items in
    let to : Bool → OpenPorts =
    λ b. record { ports = admitted b (suc last) c.args.door (ports_of c.self.inside.slots.items); last = suc last; closed = put_all closed (if b then [] else suc last ∷ []) } in
    let put : List ℕ → OpenPorts =
    λ cs. record { ports = ports_of c.self.inside.slots.items; last = suc last; closed = cs } in
    rw (← c.self.view_is, add-one) (
    ap put (c.put_in.ensures.items ∙ ap (inserted (last + 1)) c.in_ok-reserve.ensures.items ∙ ap (λ n. inserted n closed) (add-one last))
    ∙ sym (ap to c.if-has_room.false))

pub returns-in_ok-reserve-2-clause-spared : goal.returns-in_ok-reserve-2-clause-spared
returns-in_ok-reserve-2-clause-spared c =
    rw (← c.self.view_is, c.put_in.ensures.items, c.in_ok-reserve.ensures.items, c.in_ok-reserve-2.ensures.items)
    (spared-refused c.self.inside.slots.items (c.self.inside.last + 1) c.self.inside.last c.self.inside.closed.items c.self.inside.touched.items)
