use Rattle.replay_laws.proofs.SecretLemmas.{records_alike}
use Rattle.replay_laws.proofs.secrets.a_record_tells_no_secret.Goals as goal

pub returns : goal.returns
returns c = records_alike
