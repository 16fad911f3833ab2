use Rattle.std.proofs.Common.{length, ap, ◌∙◌, arith, length-append}
use Rattle.wire_text.specs.Wire.{uint32}
use Rattle.wire_text.proofs.WireLemmas.{length-uint32}
use Rattle.constraint_rec.proofs.read.take_uses.Goals as goal

pub returns-in_default-clause-shorter : goal.returns-in_default-clause-shorter
returns-in_default-clause-shorter c =
    let uses = c.in_ok-uses.uses in
    omega (arith, ap length c.in_ok-uses.ensures.found ∙ length-append (uint32 uses) c.take_u32.new.self, length-uint32 uses)
