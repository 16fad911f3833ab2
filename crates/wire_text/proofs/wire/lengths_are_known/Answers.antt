use Rattle.wire_text.proofs.WireLemmas.{length-uint32, length-uint64, length-string}
use Rattle.wire_text.proofs.wire.lengths_are_known.Goals as goal

pub returns-clause-uint32 : goal.returns-clause-uint32
returns-clause-uint32 c = length-uint32

pub returns-clause-uint64 : goal.returns-clause-uint64
returns-clause-uint64 c = length-uint64

pub returns-clause-string : goal.returns-clause-string
returns-clause-string c = length-string
