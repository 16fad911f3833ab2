use Rattle.relay_core.proofs.LawLemmas.{granted-found, granted-only, verdict-found, verdict-only}
use Rattle.relay_core.proofs.laws.granted_only_by_a_consent.Goals as goal

pub returns-clause-verdict : goal.returns-clause-verdict
returns-clause-verdict c = λ status output. (verdict-only status output, verdict-found status output)

pub returns-clause-granted : goal.returns-clause-granted
returns-clause-granted c = λ job answer. (granted-only job answer, granted-found job answer)
