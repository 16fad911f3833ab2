use Rattle.key_file.proofs.WritingLemmas.{written_is_read}
use Rattle.key_file.proofs.laws.a_written_body_is_read.Goals as goal

pub returns : goal.returns
returns c = written_is_read
