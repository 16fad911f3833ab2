use Rattle.p521_curve.specs.Encoding.{affine_x}
use Rattle.p521_curve.proofs.point.Point.affine_x.Goals as goal

pub returns : goal.returns
unfolding affine_x
returns c = cc
