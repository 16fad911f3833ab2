use Rattle.agent_core.proofs.KeptLemmas.{kept_rising}
use Rattle.agent_core.proofs.TouchedLemmas.{listed-touched, never_untouched, spared-touched, touched_room}
use Rattle.agent_core.proofs.ports.Ports.touch.Goals as goal

pub place_near-requires : goal.place_near-requires
place_near-requires c = rw c.deref.ensures.value (kept_rising _ _ _ _ c.self.invariant.kept)

pub put_in-requires-clause-room : goal.put_in-requires-clause-room
put_in-requires-clause-room c =
    let is = rw c.deref.ensures.value at c.in-Some.ensures in
    touched_room _ _ _ _ c.args.number c.in-Some.field-0 c.self.invariant.marked is

pub invariant_of-self : goal.invariant_of-self
invariant_of-self c =
    let is = rw c.deref.ensures.value at c.in-Some.ensures in
    rw c.put_in.ensures.items (listed-touched _ _ _ _ _ _ c.args.number c.in-Some.field-0 _ c.self.invariant is c.put_in.ensures.room)

pub returns-in-Some-clause-spared : goal.returns-in-Some-clause-spared
returns-in-Some-clause-spared c =
    rw (← c.self.view_is, c.put_in.ensures.items)
    (spared-touched c.self.inside.slots.items c.args.number c.self.inside.last c.self.inside.closed.items c.self.inside.touched.items)

pub returns-in-Some-clause-touched : goal.returns-in-Some-clause-touched
returns-in-Some-clause-touched c =
    rw c.put_in.ensures.items (never_untouched c.args.number c.self.inside.closed.items c.self.inside.touched.items)
