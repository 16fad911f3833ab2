use Rattle.key_blob.proofs.SizeLemmas.{digits_are_within}
use Rattle.key_blob.proofs.laws.a_number_of_an_addition_has_at_most_16384_digits.Goals as goal

pub returns : goal.returns
returns c = λ content small. digits_are_within content 16384 small
