use Rattle.std.proofs.Common.{refl}
use Rattle.field25519.specs.Field.{field_add, field_mul, field_sub}
use Rattle.curve25519.proofs.constants.constants_hold.Goals as goal

pub returns-clause-d : goal.returns-clause-d
unfolding field_mul field_sub
returns-clause-d c = refl

pub returns-clause-twice : goal.returns-clause-twice
unfolding field_mul
returns-clause-twice c = refl

pub returns-clause-y : goal.returns-clause-y
unfolding field_mul
returns-clause-y c = refl

pub returns-clause-on_curve : goal.returns-clause-on_curve
unfolding field_add field_mul field_sub
returns-clause-on_curve c = refl

pub returns-clause-root : goal.returns-clause-root
unfolding field_mul field_sub
returns-clause-root c = refl
