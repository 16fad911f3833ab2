use Rattle.key_file.proofs.BodyLemmas.{body_is_found, body_is_read}
use Rattle.key_file.proofs.laws.a_reading_is_a_body.Goals as goal

pub returns : goal.returns
returns c = λ bytes file small. (body_is_found bytes file small, body_is_read bytes file)
