use Rattle.std.proofs.Common.{length}
use Rattle.record_world.proofs.FrameLemmas.{Goes}
use Rattle.record_world.proofs.frames.take_frames.Given as goal

-- what was taken so far and what is left to take are what is taken of all bytes
abbrev pub invariant-frames : goal.invariant-frames
invariant-frames l = Goes l.fn.unrecorded.live l.unrecorded.live l.fn.passphrases l.passphrases l.fn.leaving.items l.leaving.items

abbrev pub decreases-frames : goal.decreases-frames
decreases-frames l = length l.unrecorded.live
