use Rattle.std.proofs.Common.{arith}
use Rattle.rsa_sign.proofs.KeyLemmas.{factor-long, factor-short}
use Rattle.rsa_sign.proofs.key.has_factor_size.Goals as goal

pub returns-then-factor-gt8 : goal.returns-then-factor-gt8
returns-then-factor-gt8 c = factor-long c.args.factor.now (omega (arith, c.if-factor-gt8.true))

pub returns-else-factor-gt8 : goal.returns-else-factor-gt8
returns-else-factor-gt8 c = factor-short c.args.factor.now (omega (arith, c.if-factor-gt8.false))
