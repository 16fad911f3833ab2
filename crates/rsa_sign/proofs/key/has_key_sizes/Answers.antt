use Rattle.std.proofs.Common.{arith, sym}
use Rattle.rsa_sign.proofs.KeyLemmas.{sizes-d, sizes-iqmp, sizes-modulus, sizes-p, sizes-q}
use Rattle.rsa_sign.proofs.key.has_key_sizes.Goals as goal

pub returns-then-not-has_size : goal.returns-then-not-has_size
returns-then-not-has_size c =
    sizes-modulus c.args.modulus.now c.args.d.now c.args.p.now c.args.q.now c.args.iqmp.now
    (sym c.if-not-has_size.ensures)

pub returns-then-not-has_factor_size : goal.returns-then-not-has_factor_size
returns-then-not-has_factor_size c =
    sizes-p c.args.modulus.now c.args.d.now c.args.p.now c.args.q.now c.args.iqmp.now
    (sym c.if-not-has_size.ensures) (sym c.if-not-has_factor_size.ensures)

pub returns-then-not-has_factor_size-2 : goal.returns-then-not-has_factor_size-2
returns-then-not-has_factor_size-2 c =
    sizes-q c.args.modulus.now c.args.d.now c.args.p.now c.args.q.now c.args.iqmp.now
    (sym c.if-not-has_size.ensures) (sym c.if-not-has_factor_size.ensures) (sym c.if-not-has_factor_size-2.ensures)

pub returns-then-d-modulus : goal.returns-then-d-modulus
returns-then-d-modulus c =
    sizes-d c.args.modulus.now c.args.d.now c.args.p.now c.args.q.now c.args.iqmp.now
    (sym c.if-not-has_size.ensures) (sym c.if-not-has_factor_size.ensures) (sym c.if-not-has_factor_size-2.ensures)
    (omega (arith, c.if-d-modulus.true))

pub returns : goal.returns
returns c =
    sizes-iqmp c.args.modulus.now c.args.d.now c.args.p.now c.args.q.now c.args.iqmp.now
    (sym c.if-not-has_size.ensures) (sym c.if-not-has_factor_size.ensures) (sym c.if-not-has_factor_size-2.ensures)
    (omega (arith, c.if-d-modulus.false))
