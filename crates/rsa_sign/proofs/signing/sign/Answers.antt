use Rattle.std.proofs.Common.{◌∙◌, ap, sym}
use Rattle.rsa_sign.specs.Keys.{signed}
use Rattle.rsa_sign.proofs.signing.sign.Goals as goal

pub returns : goal.returns
returns c =
    let key = c.args.key.now in
    c.sign_any.ensures _
    (ap (signed key.modulus.now key.e key.d.now key.p.now key.q.now key.iqmp.now)
    (sym (c.deref.ensures.value ∙ c.in_ok-info.ensures.ok)))
