use Rattle.std.proofs.Common.{refl}
use Rattle.std.specs.Fmt.{digits}
use Rattle.wire_text.specs.Wire.{announced_len, string, uint32}
use Rattle.wire_core.specs.Fields.{string_at, string_len}
use Rattle.agent_msg.specs.Reading.{request_of, request_of_number}
use Rattle.redact_core.proofs.rows.passphrases_are_numbered.Goals as goal

pub returns : goal.returns
unfolding digits announced_len string uint32 string_at string_len request_of request_of_number
returns c = record { first = refl; again = refl; other = refl; tenth = refl; empty = refl; in_turn = refl }
