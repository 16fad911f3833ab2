use Rattle.std.proofs.Common.{◌<◌, ◌^◌, ◌+◌, suc, ap, add-one, refl, arith}
use Rattle.agent_core.specs.Slots.{MarkedPorts}
use Rattle.agent_core.proofs.KeptLemmas.{joined_port}
use Rattle.agent_core.proofs.TouchedLemmas.{joined_room, listed-joined, spared-joined}
use Rattle.agent_core.proofs.ports.Ports.admit.Goals as goal

pub put_in-requires-clause-room : goal.put_in-requires-clause-room
put_in-requires-clause-room c =
    rw c.in_ok-reserve-2.ensures.items
    (joined_room _ _ _ _ _ _ c.self.invariant.marked (omega (arith, c.in_ok-reserve.ensures.ok, c.in_ok-reserve-2.ensures.ok, c.capacity.ensures)))

pub invariant_of-self-2 : goal.invariant_of-self-2
invariant_of-self-2 c =
    let last = ap (λ (v : MarkedPorts). v.last) c.self.view_is in
    let below : suc c.self.inside.last < 2 ^ 64 = omega (arith, c.requires, last) in
    let new = joined_port c.self.inside.last (suc c.self.inside.last) c.args.door c.new-2.result c.in_ok-owed.owed c.new-3.result refl c.new-2.ensures c.in_ok-owed.ensures c.new-3.ensures in
    rw (c.put_in.ensures.items, c.in_ok-reserve-2.ensures.items, c.in_default.ensures.items, c.in_ok-reserve.ensures.items, add-one)
    (listed-joined _ _ _ _ _ _ _ _ c.args.door _ c.self.invariant new (omega (arith, c.in_ok-reserve.ensures.ok))
    (omega (arith, c.in_ok-reserve-2.ensures.ok, c.capacity.ensures, c.put_in.ensures.room)) below)

pub returns-clause-spared : goal.returns-clause-spared
returns-clause-spared c =
    rw (← c.self.view_is, c.put_in.ensures.items, c.in_ok-reserve-2.ensures.items, c.in_default.ensures.items, c.in_ok-reserve.ensures.items)
    (spared-joined c.self.inside.slots.items _ (c.self.inside.last + 1) c.self.inside.last c.self.inside.closed.items c.self.inside.touched.items refl)
