use Rattle.std.proofs.Common.{◌++◌}
use Rattle.helper_link.specs.Settling.{settling}
use Rattle.helper_link.proofs.AnswerLemmas.{lead_others, settling_leads}
use Rattle.helper_link.proofs.laws.answers_go_to_who_asked.Goals as goal

pub returns-clause-askers : goal.returns-clause-askers
returns-clause-askers c = λ piece link. settling_leads (link.heard ++ piece) link.asks

pub returns-clause-others : goal.returns-clause-others
returns-clause-others c = λ number piece link sound.
    let all = settling (link.heard ++ piece) link.asks in
    lead_others number all.settled link.asks all.asks 0 link.last
    (settling_leads (link.heard ++ piece) link.asks) sound.order
