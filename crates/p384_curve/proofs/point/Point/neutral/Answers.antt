use Rattle.p384_curve.specs.Points.{neutral}
use Rattle.p384_curve.proofs.point.Point.neutral.Goals as goal

pub returns : goal.returns
unfolding neutral
returns c = cc
