use Rattle.std.proofs.Common.{◌∙◌, ap, eqb}
use Rattle.std.proofs.lemmas.Bool.{eqb-true, false_from_ne_true}
use Rattle.confirm_desk.specs.Confirmations.{find_job, find_linked}
use Rattle.confirm_desk.proofs.EndLemmas.{decided, job_gone, others_left, port_gone}
use Rattle.confirm_desk.proofs.laws.a_decision_is_taken_once.Goals as goal

pub returns : goal.returns
returns c = record {
  job = λ port piece desk one sound found is. ap (find_job one.job) (decided port piece desk one found is) ∙ job_gone one.job desk sound.apart;
  port = λ port piece desk one sound found is. ap (find_linked port) (decided port piece desk one found is) ∙ port_gone port desk one sound.apart found;
  others = λ port other piece desk one found is differs.
      ap (find_job other) (decided port piece desk one found is)
      ∙ others_left one.job other desk (false_from_ne_true (eqb other one.job) (λ e. differs (eqb-true other one.job e)));
}
