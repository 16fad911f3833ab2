use Rattle.wire_text.proofs.FrontLemmas.{front-append_whole, front-append_bad}
use Rattle.wire_text.proofs.frames.a_front_is_found_early.Goals as goal

pub returns-clause-whole : goal.returns-clause-whole
returns-clause-whole c = front-append_whole

pub returns-clause-bad : goal.returns-clause-bad
returns-clause-bad c = front-append_bad
