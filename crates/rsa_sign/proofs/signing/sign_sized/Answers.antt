use Rattle.std.proofs.Common.{arith, ◌≡◌, ◌≤◌, ◌∙◌, ap, length}
use Rattle.rsa_numbers.specs.Numbers.{value}
use Rattle.rsa_octets.specs.Octets.{os2ip}
use Rattle.rsa_sign.proofs.KeyLemmas.{leads-of, signed_by-same}
use Rattle.rsa_sign.proofs.signing.sign_sized.Goals as goal

pub returns : goal.returns
returns c = λ x x_is.
    c.sign_words-signed.ensures x
    (x_is
    ∙ signed_by-same c.args.modulus.now c.args.e c.args.info.now _ _ _ _ _ _ _ _
    (ap value c.deref.ensures.value ∙ c.in_ok-d_words.ensures.ok)
    (ap value c.deref-2.ensures.value ∙ c.in_ok-p_words.ensures.ok)
    (ap value c.deref-3.ensures.value ∙ c.in_ok-q_words.ensures.ok)
    (ap value c.deref-4.ensures.value ∙ c.in_ok-iqmp_words.ensures.ok))

pub sign_words-signed-requires-clause-p_leads : goal.sign_words-signed-requires-clause-p_leads
sign_words-signed-requires-clause-p_leads c =
    leads-of c.deref-2.result.now c.args.p.now c.requires.p_long (omega (arith, c.in_ok-p_words.ensures.size)) c.requires.p_leads
    (ap value c.deref-2.ensures.value ∙ c.in_ok-p_words.ensures.ok)

pub sign_words-signed-requires-clause-q_leads : goal.sign_words-signed-requires-clause-q_leads
sign_words-signed-requires-clause-q_leads c =
    leads-of c.deref-3.result.now c.args.q.now c.requires.q_long (omega (arith, c.in_ok-q_words.ensures.size)) c.requires.q_leads
    (ap value c.deref-3.ensures.value ∙ c.in_ok-q_words.ensures.ok)
