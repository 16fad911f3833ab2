use Rattle.curve25519.specs.Points.{neutral}
use Rattle.curve25519.proofs.point.Point.neutral.Goals as goal

pub returns : goal.returns
unfolding neutral
returns c = cc
