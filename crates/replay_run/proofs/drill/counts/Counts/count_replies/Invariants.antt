use Rattle.std.proofs.Common.{◌≡◌, length}
use Rattle.wire_text.specs.Bounds.{longest_to_child}
use Rattle.wire_text.specs.Frames.{split}
use Rattle.replay_run.specs.Drilling.{counts_with}
use Rattle.replay_run.proofs.drill.counts.Counts.count_replies.Given as goal

-- what is counted, and the replies that are left, are all replies
abbrev pub invariant-frames : goal.invariant-frames
invariant-frames l = counts_with (split longest_to_child l.rest).bodies l.self ≡ counts_with (split longest_to_child l.fn.bytes).bodies l.fn.self

abbrev pub decreases-frames : goal.decreases-frames
decreases-frames l = length l.rest
