use Rattle.std.proofs.Common.{◌≡◌, length}
use Rattle.known_hosts.specs.Parts.{some_parts}
use Rattle.known_hosts.proofs.parts.Fields.next_field.Given as goal

-- the parts so far are empty
abbrev pub invariant-parts : goal.invariant-parts
invariant-parts l = some_parts l.self-inside.parts ≡ l.fn.self

abbrev pub decreases-parts : goal.decreases-parts
decreases-parts l = length l.self-inside.parts
