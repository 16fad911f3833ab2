use Rattle.key_file.proofs.PublicLineLemmas.{line_is_found}
use Rattle.key_file.proofs.PublicLineReading.{line_is_read}
use Rattle.key_file.proofs.laws.a_reading_is_a_line.Goals as goal

pub returns : goal.returns
returns c = λ text blob small. (line_is_found text blob small, line_is_read text blob)
