use Rattle.key_blob.proofs.SizeLemmas.{bits_of-modulus, digits_are_unique}
use Rattle.key_blob.proofs.laws.a_size_is_the_digits_of_the_modulus.Goals as goal

pub returns : goal.returns
returns c = record { digits = bits_of-modulus; unique = digits_are_unique }
