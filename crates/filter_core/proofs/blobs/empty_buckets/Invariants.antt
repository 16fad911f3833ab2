use Rattle.std.proofs.Common.{◌≡◌, length}
use Rattle.filter_core.proofs.blobs.empty_buckets.Given as goal

abbrev pub invariant-marks : goal.invariant-marks
invariant-marks l = length l.buckets.items ≡ l.counter
