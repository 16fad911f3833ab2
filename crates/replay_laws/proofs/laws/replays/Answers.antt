use Rattle.replay_laws.proofs.RunLemmas.{each_replays}
use Rattle.replay_laws.proofs.laws.replays.Goals as goal

pub returns : goal.returns
returns c = record { replays = each_replays }
