use Rattle.std.proofs.Common.{arith}
use Rattle.rsa_verify.proofs.VerifyingLemmas.{size-above, size-below, size-between, size-first}
use Rattle.rsa_verify.proofs.modulus.has_size.Goals as goal

pub returns-then-octets-gt1024 : goal.returns-then-octets-gt1024
returns-then-octets-gt1024 c = size-above c.args.modulus.now c.if-octets-gt1024.true

pub returns-then-octets-gt128 : goal.returns-then-octets-gt128
returns-then-octets-gt128 c =
    size-between c.args.modulus.now (omega (arith, c.if-octets-gt1024.false)) c.if-octets-gt128.true

pub returns-then-octets-lt128 : goal.returns-then-octets-lt128
returns-then-octets-lt128 c = size-below c.args.modulus.now c.if-octets-lt128.true

pub returns : goal.returns
returns c =
    size-first c.args.modulus.now (omega (arith, c.if-octets-gt128.false, c.if-octets-lt128.false))
