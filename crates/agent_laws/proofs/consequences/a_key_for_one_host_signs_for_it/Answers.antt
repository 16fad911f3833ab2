use Rattle.agent_laws.proofs.HostLemmas.{put-to_host}
use Rattle.agent_laws.proofs.consequences.a_key_for_one_host_signs_for_it.Goals as goal

pub returns : goal.returns
returns c = put-to_host
