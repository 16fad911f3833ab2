use Rattle.std.proofs.Common.{subst, sym}
use Rattle.helper_link.specs.HelperLink.{ArePutBy, HelperLink}
use Rattle.helper_link.proofs.SecondLemmas.{put_by_telling}
use Rattle.bench_tool.proofs.link.batch.Goals as goal

pub returns-clause-later : goal.returns-clause-later
returns-clause-later c =
    let sent = subst (λ (l : HelperLink). ArePutBy 0 l.asks) (sym c.took.ensures) c.asks.invariant.1 in
    subst (λ (l : HelperLink). ArePutBy 0 l.asks) (sym c.in_ok-told.ensures.link) (put_by_telling 0 c.as_slice.result.now c.took.new.self sent)
