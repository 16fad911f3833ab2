use Rattle.key_file.proofs.BodyAnswers.{text_is_found, text_is_read}
use Rattle.key_file.proofs.laws.a_reading_is_a_text.Goals as goal

pub returns : goal.returns
returns c = λ text file small. (text_is_found text file small, text_is_read text file)
