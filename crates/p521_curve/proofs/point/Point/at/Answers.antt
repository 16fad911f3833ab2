use Rattle.p521_curve.specs.Points.{point_at}
use Rattle.p521_curve.proofs.point.Point.at.Goals as goal

pub returns : goal.returns
unfolding point_at
returns c = cc
