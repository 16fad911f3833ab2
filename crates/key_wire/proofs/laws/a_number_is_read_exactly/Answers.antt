use Rattle.std.proofs.Common.{ap, ◌∙◌}
use Rattle.key_wire.specs.Numbers.{magnitude}
use Rattle.key_wire.proofs.NumberLemmas.{magnitude_again, magnitude_is, secret_again, secret_is}
use Rattle.key_wire.proofs.laws.a_number_is_read_exactly.Goals as goal

pub returns-clause-public : goal.returns-clause-public
returns-clause-public c = λ text bytes. (magnitude_is text bytes, λ is. ap magnitude is.1 ∙ magnitude_again bytes is.0)

pub returns-clause-secret : goal.returns-clause-secret
returns-clause-secret c = λ text bytes. (secret_is text bytes, secret_again text bytes)
