use Rattle.std.proofs.Common.{◌≡◌, length}
use Rattle.key_blob.specs.Principals.{are_strings}
use Rattle.key_blob.proofs.certificate.holds_strings.Given as goal

-- the strings so far make no difference
abbrev pub invariant-strings : goal.invariant-strings
invariant-strings l = are_strings l.from ≡ are_strings l.fn.bytes

abbrev pub decreases-strings : goal.decreases-strings
decreases-strings l = length l.from
