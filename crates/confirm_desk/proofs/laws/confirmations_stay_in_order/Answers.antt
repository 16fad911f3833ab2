use Rattle.std.proofs.Common.{refl, arith}
use Rattle.lists.proofs.KeyedLemmas.{rise-change, rise-push, rise-remove}
use Rattle.confirm_desk.specs.Confirmations.{confirmation_of, heard_more, job_of, linked_at, took_some}
use Rattle.confirm_desk.proofs.laws.confirmations_stay_in_order.Goals as goal

pub returns : goal.returns
returns c = record {
  first = omega arith;
  raised =
      λ job last held prompt now desk above rise. rise-push job_of 0 last desk (confirmation_of job held prompt now) above rise;
  linked =
      λ job port last desk rise. rise-change job_of job 0 last (linked_at port) desk (λ _. refl) rise;
  took =
      λ job count last desk rise. rise-change job_of job 0 last (took_some count) desk (λ _. refl) rise;
  told =
      λ job last piece desk rise. rise-change job_of job 0 last (heard_more piece) desk (λ _. refl) rise;
  lost = λ job last desk rise. rise-remove job_of job 0 last desk rise;
}
