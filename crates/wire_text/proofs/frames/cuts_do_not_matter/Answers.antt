use Rattle.wire_text.proofs.SplitLemmas.{split-append}
use Rattle.wire_text.proofs.frames.cuts_do_not_matter.Goals as goal

pub returns : goal.returns
returns c = split-append
