use Rattle.curve_laws.proofs.P256RootLemmas.{power-is-inverse}
use Rattle.curve_laws.proofs.p256.field_inv_inverts.Goals as goal

pub returns : goal.returns
returns c = power-is-inverse
