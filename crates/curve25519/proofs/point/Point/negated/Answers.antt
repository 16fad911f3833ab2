use Rattle.curve25519.specs.Points.{negated}
use Rattle.curve25519.proofs.point.Point.negated.Goals as goal

pub returns : goal.returns
unfolding negated
returns c = cc
