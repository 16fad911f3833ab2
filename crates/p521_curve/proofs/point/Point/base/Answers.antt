use Rattle.p521_curve.specs.Points.{base}
use Rattle.p521_curve.proofs.point.Point.base.Goals as goal

pub returns : goal.returns
unfolding base
returns c = cc
