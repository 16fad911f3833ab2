use Rattle.curve25519.specs.Points.{addend_of}
use Rattle.curve25519.proofs.point.Addend.of.Goals as goal

pub returns : goal.returns
unfolding addend_of
returns c = cc
