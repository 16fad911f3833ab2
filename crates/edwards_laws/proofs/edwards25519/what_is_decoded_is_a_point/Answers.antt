use Rattle.edwards_laws.proofs.DecodedLemmas.{decoded-stands, negated-stands}
use Rattle.edwards_laws.proofs.edwards25519.what_is_decoded_is_a_point.Goals as goal

pub returns-clause-point : goal.returns-clause-point
returns-clause-point c = decoded-stands

pub returns-clause-opposite : goal.returns-clause-opposite
returns-clause-opposite c = negated-stands
