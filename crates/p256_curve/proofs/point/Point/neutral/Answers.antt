use Rattle.p256_curve.specs.Points.{neutral}
use Rattle.p256_curve.proofs.point.Point.neutral.Goals as goal

pub returns : goal.returns
unfolding neutral
returns c = cc
