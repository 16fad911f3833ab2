use Rattle.p256_curve.specs.Points.{point_at}
use Rattle.p256_curve.proofs.point.Point.at.Goals as goal

pub returns : goal.returns
unfolding point_at
returns c = cc
