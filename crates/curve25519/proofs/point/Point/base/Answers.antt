use Rattle.curve25519.specs.Points.{base}
use Rattle.curve25519.proofs.point.Point.base.Goals as goal

pub returns : goal.returns
unfolding base
returns c = cc
