use Rattle.agent_model.proofs.UnseenEventLemmas.{unseen-heard, unseen-took}
use Rattle.agent_model.proofs.UnseenLemmas.{unseen-reply}
use Rattle.agent_model.proofs.bindings.what_is_not_seen_changes_no_reply.Goals as goal

pub returns-clause-request : goal.returns-clause-request
returns-clause-request c = unseen-reply

pub returns-clause-heard : goal.returns-clause-heard
returns-clause-heard c = λ state moment number port key before after found door alone. unseen-heard state moment number port key before after found alone door

pub returns-clause-took : goal.returns-clause-took
returns-clause-took c = λ state moment number port key before after found door alone. unseen-took state moment number port key before after found alone door
