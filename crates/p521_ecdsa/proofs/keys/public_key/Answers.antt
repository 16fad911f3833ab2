use Rattle.std.proofs.Common.{◌∙◌, ap, sym}
use Rattle.p521_ecdsa.specs.Keys.{in_range, public_key}
use Rattle.p521_ecdsa.proofs.keys.public_key.Goals as goal

pub returns-then-not-is_in_range : goal.returns-then-not-is_in_range
returns-then-not-is_in_range c = ap in_range (sym c.from_bytes-d.ensures) ∙ sym c.if-not-is_in_range.ensures

pub returns : goal.returns
returns c = (
  ap in_range (sym c.from_bytes-d.ensures) ∙ sym c.if-not-is_in_range.ensures,
  c.key_of.ensures ∙ ap public_key c.from_bytes-d.ensures,
)
