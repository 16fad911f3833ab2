use Rattle.key_purposes.proofs.MessageLemmas.{only_one}
use Rattle.key_purposes.proofs.laws.a_message_is_for_one_thing.Goals as goal

pub returns : goal.returns
returns c = λ message blob bytes blob_bytes short. only_one message blob bytes blob_bytes short
