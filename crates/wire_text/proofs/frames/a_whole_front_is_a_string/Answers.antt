use Rattle.wire_text.proofs.FrontLemmas.{front_is_string, IsBody-front_body, length-front_body, front-string}
use Rattle.wire_text.proofs.frames.a_whole_front_is_a_string.Goals as goal

pub returns-clause-found : goal.returns-clause-found
returns-clause-found c = front_is_string

pub returns-clause-body : goal.returns-clause-body
returns-clause-body c = λ max bytes body_len found. (IsBody-front_body max bytes body_len found, length-front_body max bytes body_len found)

pub returns-clause-only : goal.returns-clause-only
returns-clause-only c = front-string
