use Rattle.std.proofs.Common.{◌≡◌, ◌++◌, drop}
use Rattle.replay_run.specs.Told.{start_lines}
use Rattle.replay_run.proofs.watch.put_starts.Given as goal

-- what is printed, and the lines of the jobs that are left, are all lines
abbrev pub invariant-jobs : goal.invariant-jobs
invariant-jobs l = l.out.items ++ start_lines l.before (drop l.job-index l.jobs) ≡ l.fn.out.items ++ start_lines l.before l.jobs
