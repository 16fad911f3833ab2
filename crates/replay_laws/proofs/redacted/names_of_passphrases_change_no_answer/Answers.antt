use Rattle.replay_laws.proofs.RelockLemmas.{time_passes-relocked}
use Rattle.replay_laws.proofs.RelockedLemmas.{serve-relocked}
use Rattle.replay_laws.proofs.redacted.names_of_passphrases_change_no_answer.Goals as goal

pub returns : goal.returns
returns c = record { served = serve-relocked; moment = time_passes-relocked }
