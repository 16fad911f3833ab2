use Rattle.agent_laws.proofs.UsedLemmas.{used-all, used-each, used-fewer, used-most}
use Rattle.agent_laws.proofs.uses.a_key_signs_as_often_as_it_may.Goals as goal

pub returns-clause-most : goal.returns-clause-most
returns-clause-most c = used-most

pub returns-clause-fewer : goal.returns-clause-fewer
returns-clause-fewer c = used-fewer

pub returns-clause-each : goal.returns-clause-each
returns-clause-each c = used-each

pub returns-clause-all : goal.returns-clause-all
returns-clause-all c = used-all
