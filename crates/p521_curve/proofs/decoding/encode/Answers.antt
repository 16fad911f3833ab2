use Rattle.p521_curve.specs.Encoding.{encoded}
use Rattle.p521_curve.proofs.decoding.encode.Goals as goal

pub returns : goal.returns
unfolding encoded
returns c = cc
