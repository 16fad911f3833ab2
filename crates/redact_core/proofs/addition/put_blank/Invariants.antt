use Rattle.std.proofs.Common.{◌≡◌, ◌++◌, List, ℕ, length}
use Rattle.redact_core.specs.Redaction.{blank}
use Rattle.redact_core.proofs.addition.put_blank.Given as goal

-- what was appended, and the strings that are left, are all
abbrev pub invariant-fields : goal.invariant-fields
invariant-fields l =
    (done : List ℕ) × (l.out.items ≡ l.fn.out.items ++ done) × (done ++ blank l.from ≡ blank l.fn.strings)

abbrev pub decreases-fields : goal.decreases-fields
decreases-fields l = length l.from
