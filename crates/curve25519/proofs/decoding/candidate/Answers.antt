use Rattle.curve25519.specs.Encoding.{root_candidate}
use Rattle.curve25519.proofs.decoding.candidate.Goals as goal

pub returns : goal.returns
unfolding root_candidate
returns c = cc
