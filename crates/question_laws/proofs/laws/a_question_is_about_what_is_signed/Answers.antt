use Rattle.question_laws.proofs.AddedLemmas.{asked-so}
use Rattle.question_laws.proofs.AskedLemmas.{each-asked}
use Rattle.question_laws.proofs.laws.a_question_is_about_what_is_signed.Goals as goal

pub returns : goal.returns
returns c = record { asked = each-asked; by_the_past = asked-so }
