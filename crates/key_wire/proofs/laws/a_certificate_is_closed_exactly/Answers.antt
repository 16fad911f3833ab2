use Rattle.key_wire.proofs.ClosingLemmas.{closing_is_found, closing_is_read}
use Rattle.key_wire.proofs.laws.a_certificate_is_closed_exactly.Goals as goal

pub returns : goal.returns
returns c = λ bytes seal small. (closing_is_found bytes seal small, closing_is_read bytes seal)
