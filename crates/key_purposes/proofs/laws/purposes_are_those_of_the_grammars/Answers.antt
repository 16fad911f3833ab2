use Rattle.key_purposes.proofs.MessageLemmas.{one_is}
use Rattle.key_purposes.proofs.laws.purposes_are_those_of_the_grammars.Goals as goal

pub returns : goal.returns
returns c = λ purposes message blob bytes blob_bytes short. one_is message blob bytes blob_bytes short purposes
