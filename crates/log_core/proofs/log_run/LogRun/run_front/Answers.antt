use Rattle.std.proofs.Common.{◌≡◌, ◌+◌, ◌<◌, ◌⊎◌, inl, inr, ◌++◌, ℕ, List, length, ap, sym, subst, arith}
use Rattle.log_core.proofs.EndLemmas.{halts-later, halts-long, halts-memory}
use Rattle.log_core.proofs.LoggingLemmas.{log-front}
use Rattle.log_book.specs.Books.{open_in}
use Rattle.log_core.specs.Logging.{EndsWith, IsLogging, IsReady, Logging}
use Rattle.log_core.specs.Logs.{lines_of}
use Rattle.log_core.specs.declared.status.LogStatus.TheVariants as status
use Rattle.replay_run.specs.GoesOn.{HasNoLf}
use Rattle.replay_run.specs.Replay.{longest_line, longest_schedule}
use Rattle.replay_run.proofs.GoesOnLemmas.{no_lf-append}
use Rattle.log_core.proofs.log_run.LogRun.run_front.Goals as goal
use Rattle.log_core.proofs.log_run.LogRun.run_front.Goals.{then-size-gt-LONGEST_LINE-via-then-size-gt-LONGEST_LINE, then-size-gt-LONGEST_LINE-via-else-size-gt-LONGEST_LINE+then-read-size-gt-LONGEST_SCHEDULE}

pub returns-in_default-clause-logs : goal.returns-in_default-clause-logs
returns-in_default-clause-logs g c settings bytes start is =
    halts-later status.Memory settings bytes c.args.front.now start (g.O.Stream.seen c.args.output.now)
    (halts-memory settings bytes start (g.O.Stream.seen c.args.output.now) c.args.self.now is)

pub returns-then-size-gt-LONGEST_LINE-clause-logs :
    goal.returns-then-size-gt-LONGEST_LINE-clause-logs
returns-then-size-gt-LONGEST_LINE-clause-logs g c settings bytes start is =
    let before = g.O.Stream.seen c.args.output.now in
    let after = g.O.Stream.seen c.end_with.new.output in
    let inside = c.self.inside in
    let old : Logging = record { run = inside.run; pending = inside.pending.items; sights = inside.seeing.sights.items; book = inside.book } in
    let front = c.args.front.now in
    let kept = c.extend_from_slice.new.self.items in
    let new : Logging = record { run = inside.run; pending = kept; sights = inside.seeing.sights.items; book = inside.book } in
    let grown : kept ≡ inside.pending.items ++ front = c.in-Ok.ensures.items in
    let ready : IsReady old = subst IsReady (sym c.self.view_is) c.requires.ready in
    let was : IsLogging settings bytes start before old = subst (IsLogging settings bytes start before) (sym c.self.view_is) is in
    let now : IsLogging settings (bytes ++ front) start before new = log-front settings bytes start before old new was front (ap (λ (p : List ℕ). record { run = inside.run; pending = p; sights = inside.seeing.sights.items; book = inside.book }) grown) in
    let part : HasNoLf kept = subst HasNoLf (sym grown) (no_lf-append inside.pending.items front ready.begun.part c.requires.part) in
    let size_is : length c.as_slice-size.result.now ≡ length kept = ap (λ (w : List ℕ). length w) c.as_slice-size.ensures.value in
    let long : (longest_line < length kept) ⊎ (longest_schedule < inside.run.read + length kept) =
    elim c.then-size-gt-LONGEST_LINE.branch [
      | then-size-gt-LONGEST_LINE-via-then-size-gt-LONGEST_LINE w ↦ inl (omega arith)
      | then-size-gt-LONGEST_LINE-via-else-size-gt-LONGEST_LINE+then-read-size-gt-LONGEST_SCHEDULE w ↦ inr (omega arith)
    ] in
    halts-long settings (bytes ++ front) start before new now after ready.told part ready.counted long c.end_with.result
    (subst (λ (l : ℕ). EndsWith (status.BadRecord (l + 1)) c.end_with.result (lines_of (open_in inside.book)) before after) c.line-line.ensures c.end_with.ensures.ends)
