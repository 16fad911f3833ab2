use Rattle.child_msg.specs.Reading.{to_child_of}
use Rattle.signer_keys.specs.Answers.{route_of}
use Rattle.signer_keys.proofs.LawLemmas.{for_behind}
use Rattle.signer_keys.proofs.laws.a_known_key_stays.Goals as goal

pub returns : goal.returns
unfolding route_of
returns c = λ body asked is. for_behind (to_child_of body) asked is
