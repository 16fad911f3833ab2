use Rattle.ready_loop.proofs.MarkLemmas.{place-at}
use Rattle.ready_loop.proofs.marks.find_from.Goals as goal

pub returns-then-is_at : goal.returns-then-is_at
returns-then-is_at c =
    place-at c.args.port c.args.marks.now c.guess-place.result c.requires c.if-is_at.ensures
