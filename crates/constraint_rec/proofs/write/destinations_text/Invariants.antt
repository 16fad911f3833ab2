use Rattle.std.proofs.Common.{◌≡◌, take}
use Rattle.std.specs.List.{flat_map}
use Rattle.wire_text.specs.Wire.{string}
use Rattle.constraint_rec.specs.Hops.{constraint_text}
use Rattle.constraint_rec.specs.Writing.{spelt_constraint}
use Rattle.constraint_rec.proofs.write.destinations_text.Given as goal

-- the constraints so far were appended
abbrev pub invariant-loop-rule : goal.invariant-loop-rule
invariant-loop-rule l =
    l.text.items ≡ flat_map (λ rule. string (constraint_text (spelt_constraint rule))) (take l.rule-index l.rules)
