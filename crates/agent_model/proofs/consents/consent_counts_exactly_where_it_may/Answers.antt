use Rattle.agent_model.proofs.GrantLemmas.{granted-exactly, granted-put, ungranted-exactly}
use Rattle.agent_model.proofs.consents.consent_counts_exactly_where_it_may.Goals as goal

pub returns-clause-put : goal.returns-clause-put
returns-clause-put c = λ ask held chain confirmation wall under_way. granted-exactly chain confirmation wall held under_way ask

pub returns-clause-message : goal.returns-clause-message
returns-clause-message c = λ key held chain confirmation wall under_way. granted-put chain confirmation wall held under_way key

pub returns-clause-refused : goal.returns-clause-refused
returns-clause-refused c = λ cause held chain confirmation wall under_way. ungranted-exactly chain confirmation wall held under_way cause
