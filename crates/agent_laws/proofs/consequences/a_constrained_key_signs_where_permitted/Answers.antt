use Rattle.agent_laws.proofs.ConsequenceLemmas.{put-few, put-light, put-permitted}
use Rattle.agent_laws.proofs.consequences.a_constrained_key_signs_where_permitted.Goals as goal

pub returns-clause-permitted : goal.returns-clause-permitted
returns-clause-permitted c = put-permitted

pub returns-clause-few : goal.returns-clause-few
returns-clause-few c = put-few

pub returns-clause-light : goal.returns-clause-light
returns-clause-light c = put-light
