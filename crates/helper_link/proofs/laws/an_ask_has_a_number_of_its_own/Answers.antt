use Rattle.std.proofs.Common.{◌+◌, length, arith}
use Rattle.child_msg.specs.ChildFrames.{to_child_body}
use Rattle.helper_link.specs.HelperLink.{ask_of}
use Rattle.helper_link.proofs.OrderLemmas.{above_none, find-push}
use Rattle.helper_link.proofs.laws.an_ask_has_a_number_of_its_own.Goals as goal

pub returns-clause-above : goal.returns-clause-above
returns-clause-above c =
    λ number link sound above. above_none number 0 link.asks link.last sound.order above

pub returns-clause-submitted : goal.returns-clause-submitted
returns-clause-submitted c = λ number kind asker blob request now link sound.
    find-push number 0 (ask_of (link.last + 1) asker kind blob now (length (to_child_body (request (link.last + 1))))) link.asks link.last sound.order
    (omega arith)
