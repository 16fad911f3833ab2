use Rattle.std.proofs.Common.{arith, ◌≡◌, ◌<◌, ◌≤◌, ◌∙◌, length, get_or, refl}
use Rattle.rsa_octets.specs.Octets.{significant}
use Rattle.rsa_octets.proofs.Theorems.{significant-leads}
use Rattle.rsa_sign.proofs.KeyLemmas.{leads-from, signed-is}
use Rattle.rsa_sign.proofs.signing.sign_any.Goals as goal

pub sign_significant-requires-clause-p_leads : goal.sign_significant-requires-clause-p_leads
sign_significant-requires-clause-p_leads c = λ some. leads-from _ c.args.key.now.p.now c.without_zeros-3.ensures some

pub sign_significant-requires-clause-q_leads : goal.sign_significant-requires-clause-q_leads
sign_significant-requires-clause-q_leads c = λ some. leads-from _ c.args.key.now.q.now c.without_zeros-4.ensures some

pub returns : goal.returns
returns c = λ x x_is.
    (let key = c.args.key.now in
    c.sign_significant.ensures x
    (x_is
    ∙ signed-is key.modulus.now key.e key.d.now key.p.now key.q.now key.iqmp.now c.args.info.now
    _ _ _ _ _ c.without_zeros.ensures c.without_zeros-2.ensures c.without_zeros-3.ensures c.without_zeros-4.ensures
    c.without_zeros-5.ensures))
