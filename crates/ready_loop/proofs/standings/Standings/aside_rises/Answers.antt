use Rattle.std.proofs.Common.{subst}
use Rattle.lists.specs.Rising.{IsRisingList}
use Rattle.ready_loop.specs.Marks.{Standings}
use Rattle.ready_loop.proofs.MarkLemmas.{rise_list-at}
use Rattle.ready_loop.proofs.StoodLemmas.{reads_aside, writes_aside}
use Rattle.ready_loop.proofs.standings.Standings.aside_rises.Goals as goal

pub returns-clause-reads : goal.returns-clause-reads
returns-clause-reads c =
    subst (λ (view : Standings). IsRisingList view.aside.reads) c.self.view_is
    (rise_list-at reads_aside c.self.inside.marks c.rise.ensures)

pub returns-clause-writes : goal.returns-clause-writes
returns-clause-writes c =
    subst (λ (view : Standings). IsRisingList view.aside.writes) c.self.view_is
    (rise_list-at writes_aside c.self.inside.marks c.rise.ensures)
