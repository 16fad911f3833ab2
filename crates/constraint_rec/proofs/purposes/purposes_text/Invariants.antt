use Rattle.std.proofs.Common.{◌≡◌, take}
use Rattle.constraint_rec.specs.Constraints.{purposes_text}
use Rattle.constraint_rec.proofs.purposes.purposes_text.Given as goal

-- the words so far were appended
abbrev pub invariant-loop-purpose : goal.invariant-loop-purpose
invariant-loop-purpose l = l.text.items ≡ purposes_text (take l.purpose-index l.purposes)
