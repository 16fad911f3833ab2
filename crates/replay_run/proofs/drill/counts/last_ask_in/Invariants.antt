use Rattle.std.proofs.Common.{◌≡◌, length}
use Rattle.wire_text.specs.Bounds.{longest_to_child}
use Rattle.wire_text.specs.Frames.{split}
use Rattle.replay_run.specs.Drill.{last_ask}
use Rattle.replay_run.proofs.drill.counts.last_ask_in.Given as goal

-- the last ask of the messages that are left is that of all
abbrev pub invariant-frames : goal.invariant-frames
invariant-frames l = last_ask (split longest_to_child l.rest).bodies l.ask ≡ last_ask (split longest_to_child l.fn.bytes).bodies l.fn.before

abbrev pub decreases-frames : goal.decreases-frames
decreases-frames l = length l.rest
