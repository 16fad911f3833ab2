use Rattle.std.proofs.Common.{◌∙◌, ap}
use Rattle.scalar25519.specs.Scalars.{clamped}
use Rattle.ed25519.proofs.keys.secret_scalar_of.Goals as goal

pub returns : goal.returns
returns c = c.clamp.ensures ∙ ap clamped c.from_bytes.ensures
