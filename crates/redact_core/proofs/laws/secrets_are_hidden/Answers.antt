use Rattle.redact_core.proofs.HiddenLemmas.{secrets_are_hidden}
use Rattle.redact_core.proofs.laws.secrets_are_hidden.Goals as goal

pub returns : goal.returns
returns c = record { hidden = secrets_are_hidden }
