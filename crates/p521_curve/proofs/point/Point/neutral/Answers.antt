use Rattle.p521_curve.specs.Points.{neutral}
use Rattle.p521_curve.proofs.point.Point.neutral.Goals as goal

pub returns : goal.returns
unfolding neutral
returns c = cc
