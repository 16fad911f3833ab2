use Rattle.wire_text.proofs.SplitLemmas.{split_is_unique}
use Rattle.wire_text.proofs.frames.a_stream_has_one_split.Goals as goal

pub returns : goal.returns
returns c = split_is_unique
