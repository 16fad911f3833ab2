use Rattle.key_file.proofs.Base64Lemmas.{decoded_is, base64_is_decoded}
use Rattle.key_file.proofs.laws.base64_is_read_exactly.Goals as goal

pub returns : goal.returns
returns c = λ text bytes small. (decoded_is text bytes small, base64_is_decoded text bytes)
