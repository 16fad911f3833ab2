use Rattle.helper_link.proofs.SecondLemmas.{put_by_later, put_by_submitted, put_by_telling}
use Rattle.helper_link.proofs.laws.no_ask_was_put_after_the_last_second.Goals as goal

pub returns : goal.returns
returns c = record {
  first = λ now. tt;
  later = put_by_later;
  submitted = put_by_submitted;
  told = put_by_telling;
  lost = λ now link. tt;
}
