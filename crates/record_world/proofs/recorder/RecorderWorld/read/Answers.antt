use Rattle.std.proofs.Common.{length, refl}
use Rattle.record_world.specs.Orders.{leads-same}
use Rattle.record_world.proofs.LeadsLemmas.{let_through, leads-call, leads-lacking, not_lacking}
use Rattle.record_world.proofs.recorder.RecorderWorld.read.Goals as goal

pub returns-then-refuses-clause-led : goal.returns-then-refuses-clause-led
returns-then-refuses-clause-led g c =
    rw c.refuses.ensures.kept (refl, refl, refl, g.met.W.World.stays c.args.self.now.inner.now, leads-same _ _ _, refl)

pub returns-then-lacks_room-clause-led : goal.returns-then-lacks_room-clause-led
returns-then-lacks_room-clause-led g c =
    rw c.lacks_room.ensures (rw c.refuses.ensures.kept (refl, refl, refl, g.met.W.World.stays c.args.self.now.inner.now, leads-lacking _ _ _ _ _ _ _ _ c.if-lacks_room.true, refl))

pub returns-clause-led : goal.returns-clause-led
returns-clause-led g c =
    let kept = c.refuses.ensures.kept in
    let lacks = c.lacks_room.ensures in
    let wrote = rw c.got.ensures at (c.read.ensures.wrote (g.O.Stream.seen c.args.self.now.out.now) (length c.args.room.now)) in (
      refl,
      refl,
      refl,
      c.read-answer.ensures.led,
      leads-call _ _ _ _ _ _ _ (let_through _ _ _ c.refuses.ensures.value c.if-refuses.false) c.read-answer.ensures.told (not_lacking _ _ _ _ _ _ _ _ _ c.if-lacks_room.false (rw kept at (rw lacks at wrote))),
      refl,
    )
