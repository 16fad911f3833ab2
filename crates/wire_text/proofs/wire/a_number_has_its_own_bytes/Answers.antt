use Rattle.wire_text.proofs.WireLemmas.{same_uint32, same_uint64}
use Rattle.wire_text.proofs.wire.a_number_has_its_own_bytes.Goals as goal

pub returns-clause-uint32 : goal.returns-clause-uint32
returns-clause-uint32 c = same_uint32

pub returns-clause-uint64 : goal.returns-clause-uint64
returns-clause-uint64 c = same_uint64
