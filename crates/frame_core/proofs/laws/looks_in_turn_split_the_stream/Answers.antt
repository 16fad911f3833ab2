use Rattle.frame_core.proofs.TurnLemmas.{taken_in_turn-split}
use Rattle.frame_core.proofs.laws.looks_in_turn_split_the_stream.Goals as goal

pub returns : goal.returns
returns c = taken_in_turn-split
