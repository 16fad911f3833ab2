use Rattle.std.proofs.Common.{◌≡◌, length}
use Rattle.filter_core.specs.Slots.{blobs_of}
use Rattle.filter_top.specs.Lists.{blobs_in, blobs_onto}
use Rattle.filter_top.proofs.list.read_list.Given as goal

-- the blobs so far, and then those of the lines that are left, are all
abbrev pub invariant-lines : goal.invariant-lines
invariant-lines l = blobs_onto (blobs_of l.blobs) l.number l.lines ≡ blobs_in l.fn.text

abbrev pub decreases-lines : goal.decreases-lines
decreases-lines l = length l.lines
