use Rattle.agent_msg.proofs.FoundLemmas.{request_is_found}
use Rattle.agent_msg.proofs.ReadLemmas.{request_is_read}
use Rattle.agent_msg.proofs.Theorems.{request_is_unique}
use Rattle.agent_msg.proofs.laws.a_body_is_one_request.Goals as goal

pub returns : goal.returns
returns c = record {
  unique = request_is_unique;
  read = λ body request each. (request_is_found body request each, request_is_read body request);
}
