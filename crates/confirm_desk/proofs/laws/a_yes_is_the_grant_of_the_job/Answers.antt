use Rattle.confirm_desk.proofs.GrantLemmas.{grant_is_yes, yes_is_grant}
use Rattle.confirm_desk.proofs.laws.a_yes_is_the_grant_of_the_job.Goals as goal

pub returns : goal.returns
returns c = record { yes = yes_is_grant; grant = grant_is_yes }
