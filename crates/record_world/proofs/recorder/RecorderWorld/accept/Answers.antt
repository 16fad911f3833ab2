use Rattle.std.proofs.Common.{refl}
use Rattle.record_world.specs.Orders.{leads-same}
use Rattle.record_world.proofs.LeadsLemmas.{let_through, leads-call, leads-lacking, not_lacking}
use Rattle.record_world.proofs.recorder.RecorderWorld.accept.Goals as goal

pub returns-then-refuses-clause-led : goal.returns-then-refuses-clause-led
returns-then-refuses-clause-led g c =
    rw c.refuses.ensures.kept (refl, refl, refl, g.met.W.World.stays c.args.self.now.inner.now, leads-same _ _ _, refl)

pub returns-then-lacks_place-clause-led : goal.returns-then-lacks_place-clause-led
returns-then-lacks_place-clause-led g c =
    rw c.lacks_place.ensures (rw c.refuses.ensures.kept (refl, refl, refl, g.met.W.World.stays c.args.self.now.inner.now, leads-lacking _ _ _ _ _ _ _ _ c.if-lacks_place.true, refl))

pub returns-clause-led : goal.returns-clause-led
returns-clause-led g c =
    let kept = c.refuses.ensures.kept in
    let wrote = rw c.lacks_place.ensures at (c.accept.ensures.wrote (g.O.Stream.seen c.args.self.now.out.now) (g.E.Stream.seen c.args.self.now.errors.now)) in (
      refl,
      refl,
      refl,
      c.accept-answer.ensures.led,
      leads-call _ _ _ _ _ _ _ (let_through _ _ _ c.refuses.ensures.value c.if-refuses.false) c.accept-answer.ensures.told (not_lacking _ _ _ _ _ _ _ _ _ c.if-lacks_place.false (rw kept at wrote)),
      refl,
    )
