use Rattle.curve_laws.proofs.P256RootLemmas.{quotient-x, quotient-y}
use Rattle.curve_laws.proofs.P256SameLemmas.{same-encoding}
use Rattle.curve_laws.proofs.p256.what_is_encoded_is_the_point.Goals as goal

pub returns-clause-x : goal.returns-clause-x
returns-clause-x c = quotient-x

pub returns-clause-y : goal.returns-clause-y
returns-clause-y c = quotient-y

pub returns-clause-same : goal.returns-clause-same
returns-clause-same c = same-encoding
