use Rattle.p521_curve.specs.Encoding.{affine_x, affine_y}
use Rattle.p521_curve.proofs.point.Point.affine.Goals as goal

pub returns-clause-x : goal.returns-clause-x
unfolding affine_x
returns-clause-x c = cc

pub returns-clause-y : goal.returns-clause-y
unfolding affine_y
returns-clause-y c = cc
