use Rattle.std.proofs.Common.{◌≡◌, ◌+◌, ◌<◌, ◌⊎◌, inl, inr, ◌++◌, ℕ, List, length, ap, sym, subst, arith}
use Rattle.replay_run.specs.Counts.{IsCounted}
use Rattle.replay_run.specs.Feeding.{Feeding}
use Rattle.replay_run.specs.GoesOn.{HasNoLf}
use Rattle.replay_run.specs.Replay.{longest_line, longest_schedule}
use Rattle.replay_run.proofs.FeedLemmas.{late_goes_ok}
use Rattle.replay_run.proofs.GoesOnLemmas.{no_lf-append}
use Rattle.replay_run.proofs.feed.Feed.begin_line.Goals as goal
use Rattle.replay_run.proofs.feed.Feed.begin_line.Goals.{then-size-gt-LONGEST_LINE-via-then-size-gt-LONGEST_LINE, then-size-gt-LONGEST_LINE-via-else-size-gt-LONGEST_LINE+then-read-size-gt-LONGEST_SCHEDULE}

pub returns-then-size-gt-LONGEST_LINE-clause-goes :
    goal.returns-then-size-gt-LONGEST_LINE-clause-goes
returns-then-size-gt-LONGEST_LINE-clause-goes c =
    let old = c.self.inside in
    let bytes = c.extend_from_slice.new.self.items in
    let grown : bytes ≡ old.pending.items ++ c.args.front.now = c.in_ok-extend_from_slice.ensures.items in
    let waits : HasNoLf old.pending.items = subst (λ (f : Feeding). HasNoLf f.pending) (sym c.self.view_is) c.requires.ready.begun.part in
    let part : HasNoLf bytes = rw grown (no_lf-append old.pending.items c.args.front.now waits c.requires.part) in
    let counted : IsCounted old.run = subst (λ (f : Feeding). IsCounted f.run) (sym c.self.view_is) c.requires.ready.counted in
    let size_is : length c.as_slice-size.result.now ≡ length bytes = ap (λ (w : List ℕ). length w) c.as_slice-size.ensures.value in
    let long : (longest_line < length bytes) ⊎ (longest_schedule < old.run.read + length bytes) =
    elim c.then-size-gt-LONGEST_LINE.branch [
      | then-size-gt-LONGEST_LINE-via-then-size-gt-LONGEST_LINE w ↦ inl (omega arith)
      | then-size-gt-LONGEST_LINE-via-else-size-gt-LONGEST_LINE+then-read-size-gt-LONGEST_SCHEDULE w ↦ inr (omega arith)
    ] in
    rw (← c.self.view_is) (rw (← grown)
    (late_goes_ok c.refuse.result old.out.items bytes old.run c.refuse.new.watch.items c.refuse.new.self bytes part counted long c.refuse.ensures.run c.refuse.ensures.notes))
