use Rattle.signature_laws.proofs.LifeLemmas.{has-life, lead-one}
use Rattle.signature_laws.proofs.runs.events_lead_to_one_life.Goals as goal

pub returns : goal.returns
returns c = record {
  some = λ state life events. let found = has-life state life events in (found.last, found.lead);
  one = λ state life last other events lead again. lead-one lead again;
}
