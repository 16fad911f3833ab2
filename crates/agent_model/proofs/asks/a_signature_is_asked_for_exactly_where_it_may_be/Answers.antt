use Rattle.agent_model.proofs.SignLemmas.{put-exactly, put-usable, raise-usable, raised-exactly, refused-exactly}
use Rattle.agent_model.proofs.asks.a_signature_is_asked_for_exactly_where_it_may_be.Goals as goal

pub returns-clause-put : goal.returns-clause-put
returns-clause-put c = put-exactly

pub returns-clause-message : goal.returns-clause-message
returns-clause-message c = put-usable

pub returns-clause-raised : goal.returns-clause-raised
returns-clause-raised c = raised-exactly

pub returns-clause-question : goal.returns-clause-question
returns-clause-question c = raise-usable

pub returns-clause-refused : goal.returns-clause-refused
returns-clause-refused c = refused-exactly
