use Rattle.curve_laws.proofs.P384Lemmas.{infinity-plus, sum-with-infinity}
use Rattle.curve_laws.proofs.p384.infinity_is_neutral.Goals as goal

pub returns-clause-second : goal.returns-clause-second
returns-clause-second c = sum-with-infinity

pub returns-clause-first : goal.returns-clause-first
returns-clause-first c = infinity-plus
