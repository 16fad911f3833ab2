use Rattle.wire_text.proofs.FrontLemmas.{front-whole_iff, front-bad_iff, front-more_iff}
use Rattle.wire_text.proofs.frames.a_front_is_one_of_three.Goals as goal

pub returns-clause-whole : goal.returns-clause-whole
returns-clause-whole c = front-whole_iff

pub returns-clause-bad : goal.returns-clause-bad
returns-clause-bad c = front-bad_iff

pub returns-clause-more : goal.returns-clause-more
returns-clause-more c = front-more_iff
