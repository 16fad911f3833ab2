use Rattle.agent_laws.proofs.ConsentLemmas.{put-consented}
use Rattle.agent_laws.proofs.consequences.a_confirmed_key_signs_with_consent.Goals as goal

pub returns : goal.returns
returns c = put-consented
