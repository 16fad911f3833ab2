use Rattle.std.proofs.Common.{◌≡◌, ◌≤◌, ◌+◌, ◌++◌, List, ℕ, drop}
use Rattle.audit_core.specs.Passes.{difference}
use Rattle.audit_core.proofs.comparison.take_all.Given as goal

-- the bytes that are left lead to the same difference
abbrev pub invariant-bytes : goal.invariant-bytes
invariant-bytes l = record {
  line : l.matching.line ≤ l.matching.at + 1;
  same : (more : List ℕ)
      → difference l.matching (drop l.byte-index l.bytes ++ more) l.deeds ≡ difference l.fn.matching (l.bytes ++ more) l.deeds;
}
