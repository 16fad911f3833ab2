use Rattle.agent_secrecy.proofs.AlikeLemmas.{every_put}
use Rattle.agent_secrecy.proofs.SecrecyLemmas.{every_run}
use Rattle.agent_top.proofs.laws.lawful_runs_tell_no_secret.Goals as goal

pub returns-clause-seen : goal.returns-clause-seen
returns-clause-seen c = λ settings one other end alike lawful. every_run settings one other alike lawful.fit

pub returns-clause-put : goal.returns-clause-put
returns-clause-put c = λ settings one other end other_end alike lawful other_lawful.
    every_put settings one other alike lawful.fit lawful.bytes other_lawful.bytes
