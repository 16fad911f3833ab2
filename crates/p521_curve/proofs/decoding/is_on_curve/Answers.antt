use Rattle.p521_curve.specs.Encoding.{is_on_curve}
use Rattle.p521_curve.proofs.decoding.is_on_curve.Goals as goal

pub returns : goal.returns
unfolding is_on_curve
returns c = cc
