use Rattle.helper_link.proofs.CallLemmas.{numbers_rise}
use Rattle.helper_link.proofs.laws.ask_numbers_never_begin_again.Goals as goal

pub returns : goal.returns
returns c = numbers_rise
