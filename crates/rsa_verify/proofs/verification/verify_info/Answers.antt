use Rattle.std.proofs.Common.{arith, ◌≡◌, ◌≢◌, ◌<◌, ◌≤◌, ◌∙◌, ap, sym, length, get_or}
use Rattle.rsa_octets.specs.Octets.{significant}
use Rattle.rsa_octets.proofs.Theorems.{significant-leads}
use Rattle.rsa_verify.proofs.EncodingLemmas.{length-encoded}
use Rattle.rsa_verify.proofs.VerifyingLemmas.{accepts-opens, length-refused, size-bounds, size-refused}
use Rattle.rsa_verify.proofs.verification.verify_info.Goals as goal

pub returns-then-not-has_size : goal.returns-then-not-has_size
returns-then-not-has_size c =
    size-refused c.args.modulus.now c.args.e c.args.info.now c.args.signature.now c.without_zeros-modulus.result.now
    c.without_zeros-modulus.ensures (sym c.if-not-has_size.ensures)

pub returns-then-signature-modulus : goal.returns-then-signature-modulus
returns-then-signature-modulus c =
    let other : length c.args.signature.now ≢ length c.without_zeros-modulus.result.now = λ e.
    omega (arith, e, c.if-signature-modulus.true) in
    length-refused c.args.modulus.now c.args.e c.args.info.now c.args.signature.now c.without_zeros-modulus.result.now
    c.without_zeros-modulus.ensures (sym c.if-not-has_size.ensures) other

pub encode-requires : goal.encode-requires
encode-requires c =
    let bounds = size-bounds c.without_zeros-modulus.result.now (sym c.if-not-has_size.ensures) in
    record { room = omega (arith, bounds.0, c.requires.room) }

pub opens-requires-clause-leading : goal.opens-requires-clause-leading
opens-requires-clause-leading c =
    let m = c.without_zeros-modulus.result.now in
    let bounds = size-bounds m (sym c.if-not-has_size.ensures) in
    let is : m ≡ significant c.args.modulus.now = c.without_zeros-modulus.ensures in
    let some : 0 < length (significant c.args.modulus.now) = rw (← is) (omega (arith, bounds.0)) in
    rw is (significant-leads c.args.modulus.now some)

pub opens-requires-clause-long : goal.opens-requires-clause-long
opens-requires-clause-long c =
    let bounds = size-bounds c.without_zeros-modulus.result.now (sym c.if-not-has_size.ensures) in
    omega (arith, bounds.0)

pub opens-requires-clause-bounded : goal.opens-requires-clause-bounded
opens-requires-clause-bounded c =
    let bounds = size-bounds c.without_zeros-modulus.result.now (sym c.if-not-has_size.ensures) in
    omega (arith, bounds.1)

pub opens-requires-clause-message_fits : goal.opens-requires-clause-message_fits
opens-requires-clause-message_fits c =
    let bounds = size-bounds c.without_zeros-modulus.result.now (sym c.if-not-has_size.ensures) in
    ap length (c.deref.ensures.value ∙ c.in_ok-message.ensures)
    ∙ length-encoded (length c.without_zeros-modulus.result.now) c.args.info.now (omega (arith, bounds.0, c.requires.room))

pub returns : goal.returns
returns c =
    accepts-opens c.args.modulus.now c.args.e c.args.info.now c.args.signature.now c.without_zeros-modulus.result.now
    c.deref.result.now c.opens.result c.without_zeros-modulus.ensures (sym c.if-not-has_size.ensures)
    (omega (arith, c.if-signature-modulus.false)) (c.deref.ensures.value ∙ c.in_ok-message.ensures) c.opens.ensures
