use Rattle.confirm_desk.proofs.AskLemmas.{asks-link, asks-lose, asks-raised, asks-telling, asks-took_at}
use Rattle.confirm_desk.proofs.laws.questions_are_about_what_is_held.Goals as goal

pub returns : goal.returns
returns c = record {
  first = tt;
  raised = asks-raised;
  linked = asks-link;
  took = asks-took_at;
  told = asks-telling;
  lost = asks-lose;
}
