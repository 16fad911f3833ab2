use Rattle.std.proofs.Common.{refl}
use Rattle.record_world.specs.Orders.{leads-same}
use Rattle.record_world.proofs.LeadsLemmas.{let_through, leads-call}
use Rattle.record_world.proofs.recorder.RecorderWorld.write.Goals as goal

pub returns-then-refuses-clause-led : goal.returns-then-refuses-clause-led
returns-then-refuses-clause-led g c =
    rw c.refuses.ensures.kept (refl, refl, refl, g.met.W.World.stays c.args.self.now.inner.now, leads-same _ _ _, refl)

pub returns-clause-led : goal.returns-clause-led
returns-clause-led g c =
    let kept = c.refuses.ensures.kept in
    (refl, refl, refl, c.write-answer.ensures.led, leads-call _ _ _ _ _ _ _ (let_through _ _ _ c.refuses.ensures.value c.if-refuses.false) c.write-answer.ensures.told (rw kept at (c.write.ensures.wrote (g.O.Stream.seen c.args.self.now.out.now) (g.E.Stream.seen c.args.self.now.errors.now) c.args.bytes.now)), refl)
