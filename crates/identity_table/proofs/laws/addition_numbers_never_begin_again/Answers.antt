use Rattle.identity_table.proofs.TableLemmas.{numbers_rise}
use Rattle.identity_table.proofs.laws.addition_numbers_never_begin_again.Goals as goal

pub returns : goal.returns
returns c = numbers_rise
