use Rattle.agent_laws.proofs.ApartLemmas.{first-alike, runs-alike, runs-owe}
use Rattle.agent_laws.proofs.apart.what_is_hidden_changes_nothing_over_runs.Goals as goal

pub returns-clause-owed : goal.returns-clause-owed
returns-clause-owed c = runs-owe

pub returns-clause-alike : goal.returns-clause-alike
returns-clause-alike c = λ who one two ones twos runs alike. runs-alike who runs alike

pub returns-clause-first : goal.returns-clause-first
returns-clause-first c = first-alike
