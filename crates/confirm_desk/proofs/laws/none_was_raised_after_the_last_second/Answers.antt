use Rattle.confirm_desk.proofs.SecondLemmas.{raised_by_later, raised_by_linked, raised_by_lose, raised_by_raise, raised_by_telling, raised_by_took_at}
use Rattle.confirm_desk.proofs.laws.none_was_raised_after_the_last_second.Goals as goal

pub returns : goal.returns
returns c = record {
  first = λ now. tt;
  later = raised_by_later;
  raised = raised_by_raise;
  linked = raised_by_linked;
  took = raised_by_took_at;
  told = raised_by_telling;
  lost = raised_by_lose;
}
