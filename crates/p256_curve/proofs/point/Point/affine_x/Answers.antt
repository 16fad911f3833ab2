use Rattle.p256_curve.specs.Encoding.{affine_x}
use Rattle.p256_curve.proofs.point.Point.affine_x.Goals as goal

pub returns : goal.returns
unfolding affine_x
returns c = cc
