use Rattle.wire_text.proofs.SplitLemmas.{split-Splits}
use Rattle.wire_text.proofs.frames.every_stream_has_a_split.Goals as goal

pub returns : goal.returns
returns c = split-Splits
