use Rattle.std.proofs.Common.{rules, ◌≡◌, ◌∙◌, ap, Some, slice_get}
use Rattle.confirm_desk.specs.Confirmations.{oldest}
use Rattle.confirm_desk.proofs.OldestLemmas.{oldest_first}
use Rattle.confirm_desk.proofs.desk.Desk.oldest.Goals as goal

pub returns : goal.returns
returns c =
    let there : Some c.in_ok-first.first.now ≡ slice_get c.self.inside.confirmations.items 0 = search rules in
    rw (c.job.ensures, c.raised_at.ensures)
    (oldest_first c.in_ok-first.first.now c.self.inside.confirmations.items c.self.invariant.seconds there
    ∙ ap oldest c.self.view_is)
