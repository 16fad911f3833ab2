use Rattle.key_file.proofs.WritingLemmas.{body_is_written}
use Rattle.key_file.proofs.laws.a_body_is_written_again.Goals as goal

pub returns : goal.returns
returns c = body_is_written
