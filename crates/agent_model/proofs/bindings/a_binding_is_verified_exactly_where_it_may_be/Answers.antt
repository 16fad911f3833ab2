use Rattle.agent_model.proofs.BindableLemmas.{bind_put-exactly, bind_refused-exactly, put-bindable, readable-bind_request, unreadable-malformed}
use Rattle.agent_model.proofs.bindings.a_binding_is_verified_exactly_where_it_may_be.Goals as goal

pub returns-clause-put : goal.returns-clause-put
returns-clause-put c = bind_put-exactly

pub returns-clause-message : goal.returns-clause-message
returns-clause-message c = put-bindable

pub returns-clause-refused : goal.returns-clause-refused
returns-clause-refused c = bind_refused-exactly

pub returns-clause-malformed : goal.returns-clause-malformed
returns-clause-malformed c = unreadable-malformed

pub returns-clause-read : goal.returns-clause-read
returns-clause-read c = readable-bind_request
