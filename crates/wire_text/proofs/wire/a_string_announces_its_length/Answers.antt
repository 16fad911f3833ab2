use Rattle.wire_text.proofs.WireLemmas.{announced_len-string}
use Rattle.wire_text.proofs.wire.a_string_announces_its_length.Goals as goal

pub returns : goal.returns
returns c = announced_len-string
