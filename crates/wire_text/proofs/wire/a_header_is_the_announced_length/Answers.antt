use Rattle.wire_text.proofs.WireLemmas.{uint32-announced_len, announced_len-below}
use Rattle.wire_text.proofs.wire.a_header_is_the_announced_length.Goals as goal

pub returns-clause-bytes : goal.returns-clause-bytes
returns-clause-bytes c = uint32-announced_len

pub returns-clause-bound : goal.returns-clause-bound
returns-clause-bound c = announced_len-below
