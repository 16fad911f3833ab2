use Rattle.curve_laws.proofs.P521RootLemmas.{power-is-inverse}
use Rattle.curve_laws.proofs.p521.field_inv_inverts.Goals as goal

pub returns : goal.returns
returns c = power-is-inverse
