use Rattle.std.proofs.Common.{◌≡◌, drop}
use Rattle.key_blob.specs.Digits.{digits_of}
use Rattle.key_blob.proofs.size.digits.Given as goal

-- the bytes so far are zero
abbrev pub invariant-loop-i : goal.invariant-loop-i
invariant-loop-i l = digits_of (drop l.i l.bytes) ≡ digits_of l.bytes
