use Rattle.agent_model.specs.Verdicts.{HelperLost, HelperRefused, Refuses, Replies, Signature}
use Rattle.agent_model.proofs.AnswerLemmas.{others_are_told_nothing, others_lose_nothing, told_found}
use Rattle.agent_model.proofs.laws.answers_go_to_who_asked.Goals as goal

pub returns-clause-others : goal.returns-clause-others
returns-clause-others c = others_are_told_nothing

pub returns-clause-signed : goal.returns-clause-signed
returns-clause-signed c = λ one signature before port found. told_found one.asker (Replies (Signature signature)) before.ports port found

pub returns-clause-refused : goal.returns-clause-refused
returns-clause-refused c =
    λ one before port found. told_found one.asker (Refuses HelperRefused) before.ports port found

pub returns-clause-lost : goal.returns-clause-lost
returns-clause-lost c = others_lose_nothing (Refuses HelperLost)
