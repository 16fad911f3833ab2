use Rattle.key_purposes.proofs.WordLemmas.{words_are}
use Rattle.key_purposes.proofs.laws.words_name_purposes.Goals as goal

pub returns : goal.returns
returns c = words_are
