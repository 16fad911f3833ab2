use Rattle.std.proofs.Common.{arith, sym, ◌∙◌}
use Rattle.rsa_sign.proofs.KeyLemmas.{sized-none, sized-some, sizes-of}
use Rattle.rsa_sign.proofs.signing.sign_significant.Goals as goal

pub returns-then-not-has_key_sizes : goal.returns-then-not-has_key_sizes
returns-then-not-has_key_sizes c = λ x x_is.
    x_is
    ∙ sized-none c.args.modulus.now c.args.e c.args.d.now c.args.p.now c.args.q.now c.args.iqmp.now c.args.info.now
    (sym c.if-not-has_key_sizes.ensures)

pub sign_sized-requires-clause-long : goal.sign_sized-requires-clause-long
sign_sized-requires-clause-long c =
    (sizes-of c.args.modulus.now c.args.d.now c.args.p.now c.args.q.now c.args.iqmp.now (sym c.if-not-has_key_sizes.ensures)).modulus_long

pub sign_sized-requires-clause-bounded : goal.sign_sized-requires-clause-bounded
sign_sized-requires-clause-bounded c =
    (sizes-of c.args.modulus.now c.args.d.now c.args.p.now c.args.q.now c.args.iqmp.now (sym c.if-not-has_key_sizes.ensures)).modulus_bounded

pub sign_sized-requires-clause-p_long : goal.sign_sized-requires-clause-p_long
sign_sized-requires-clause-p_long c =
    (sizes-of c.args.modulus.now c.args.d.now c.args.p.now c.args.q.now c.args.iqmp.now (sym c.if-not-has_key_sizes.ensures)).p_long

pub sign_sized-requires-clause-p_bounded : goal.sign_sized-requires-clause-p_bounded
sign_sized-requires-clause-p_bounded c =
    (sizes-of c.args.modulus.now c.args.d.now c.args.p.now c.args.q.now c.args.iqmp.now (sym c.if-not-has_key_sizes.ensures)).p_bounded

pub sign_sized-requires-clause-p_leads : goal.sign_sized-requires-clause-p_leads
sign_sized-requires-clause-p_leads c =
    let sizes =
    sizes-of c.args.modulus.now c.args.d.now c.args.p.now c.args.q.now c.args.iqmp.now (sym c.if-not-has_key_sizes.ensures) in
    c.requires.p_leads (omega (arith, sizes.p_long))

pub sign_sized-requires-clause-q_long : goal.sign_sized-requires-clause-q_long
sign_sized-requires-clause-q_long c =
    (sizes-of c.args.modulus.now c.args.d.now c.args.p.now c.args.q.now c.args.iqmp.now (sym c.if-not-has_key_sizes.ensures)).q_long

pub sign_sized-requires-clause-q_bounded : goal.sign_sized-requires-clause-q_bounded
sign_sized-requires-clause-q_bounded c =
    (sizes-of c.args.modulus.now c.args.d.now c.args.p.now c.args.q.now c.args.iqmp.now (sym c.if-not-has_key_sizes.ensures)).q_bounded

pub sign_sized-requires-clause-q_leads : goal.sign_sized-requires-clause-q_leads
sign_sized-requires-clause-q_leads c =
    let sizes =
    sizes-of c.args.modulus.now c.args.d.now c.args.p.now c.args.q.now c.args.iqmp.now (sym c.if-not-has_key_sizes.ensures) in
    c.requires.q_leads (omega (arith, sizes.q_long))

pub sign_sized-requires-clause-d_fits : goal.sign_sized-requires-clause-d_fits
sign_sized-requires-clause-d_fits c =
    (sizes-of c.args.modulus.now c.args.d.now c.args.p.now c.args.q.now c.args.iqmp.now (sym c.if-not-has_key_sizes.ensures)).d_fits

pub sign_sized-requires-clause-iqmp_fits : goal.sign_sized-requires-clause-iqmp_fits
sign_sized-requires-clause-iqmp_fits c =
    (sizes-of c.args.modulus.now c.args.d.now c.args.p.now c.args.q.now c.args.iqmp.now (sym c.if-not-has_key_sizes.ensures)).iqmp_fits

pub returns : goal.returns
returns c = λ x x_is.
    c.sign_sized.ensures x
    (x_is
    ∙ sized-some c.args.modulus.now c.args.e c.args.d.now c.args.p.now c.args.q.now c.args.iqmp.now c.args.info.now
    (sym c.if-not-has_key_sizes.ensures))
