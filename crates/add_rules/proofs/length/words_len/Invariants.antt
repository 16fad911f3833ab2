use Rattle.std.proofs.Common.{◌≡◌, length, take}
use Rattle.constraint_rec.specs.Constraints.{purposes_text}
use Rattle.add_rules.specs.Lengths.{counted}
use Rattle.add_rules.proofs.length.words_len.Given as goal

-- the purposes so far were counted
abbrev pub invariant-purposes : goal.invariant-purposes
invariant-purposes l = l.len ≡ counted (length (purposes_text (take l.purpose-index l.purposes)))
