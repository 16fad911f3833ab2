use Rattle.std.proofs.Common.{refl}
use Rattle.rsa_sign.proofs.signing.sign_info.Goals as goal

pub returns : goal.returns
returns c = c.sign_any.ensures _ refl
