use Rattle.replay_laws.proofs.KeepLemmas.{taken_keeps, taken_told}
use Rattle.replay_laws.proofs.NameLemmas.{names_rename}
use Rattle.replay_laws.proofs.recorded.a_recorder_tells_what_was_sent.Goals as goal

pub returns : goal.returns
returns c = record {
  told = λ heard piece port early all. taken_told all heard piece port early;
  keeps = taken_keeps;
  names = names_rename;
}
