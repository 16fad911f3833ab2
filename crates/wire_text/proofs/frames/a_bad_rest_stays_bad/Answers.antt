use Rattle.wire_text.proofs.FrontLemmas.{StartsBadly-append}
use Rattle.wire_text.proofs.SplitLemmas.{split-append_bad}
use Rattle.wire_text.proofs.frames.a_bad_rest_stays_bad.Goals as goal

pub returns-clause-front : goal.returns-clause-front
returns-clause-front c = StartsBadly-append

pub returns-clause-split : goal.returns-clause-split
returns-clause-split c = split-append_bad
