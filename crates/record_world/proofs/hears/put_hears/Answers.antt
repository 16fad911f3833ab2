use Rattle.record_world.proofs.HearLemmas.{hears_next}
use Rattle.record_world.proofs.hears.put_hears.Goals as goal

pub pieces-preserved : goal.pieces-preserved
pieces-preserved c =
    let next = c.in_ok-later.ensures in
    hears_next c.args.port c.pieces.rest.now _ c.pieces.text.items _ _ next.some next.later next.text c.pieces.invariant
