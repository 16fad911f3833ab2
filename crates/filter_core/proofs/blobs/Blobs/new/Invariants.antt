use Rattle.std.proofs.Common.{◌≡◌, ◌++◌}
use Rattle.filter_core.specs.Index.{items_of}
use Rattle.filter_core.specs.Slots.{blobs_of}
use Rattle.filter_core.proofs.blobs.Blobs.new.Given as goal

-- those that were put, and then those that are left, are all
abbrev pub invariant-set : goal.invariant-set
invariant-set l = l.blobs ++ items_of l.blob-iterator ≡ blobs_of l.fn.set
