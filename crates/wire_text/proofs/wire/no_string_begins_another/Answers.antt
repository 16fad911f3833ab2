use Rattle.wire_text.proofs.WireLemmas.{same_string}
use Rattle.wire_text.proofs.wire.no_string_begins_another.Goals as goal

pub returns : goal.returns
returns c = same_string
