use Rattle.std.proofs.Common.{length}
use Rattle.std.specs.Prelude.{◌↔◌}
use Rattle.key_blob.specs.Principals.{NamesHost}
use Rattle.key_blob.proofs.certificate.names.Given as goal

-- the strings so far do not match
abbrev pub invariant-patterns : goal.invariant-patterns
invariant-patterns l = NamesHost l.host l.fn.principals ↔ NamesHost l.host l.from

abbrev pub decreases-patterns : goal.decreases-patterns
decreases-patterns l = length l.from
