use Rattle.curve_laws.proofs.P384SameLemmas.{decoded-stands}
use Rattle.curve_laws.proofs.p384.what_is_decoded_is_a_point.Goals as goal

pub returns : goal.returns
returns c = decoded-stands
