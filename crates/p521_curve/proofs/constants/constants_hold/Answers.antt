use Rattle.std.proofs.Common.{refl}
use Rattle.p521_field.specs.Field.{field_add, field_mul, field_sub}
use Rattle.p521_curve.proofs.constants.constants_hold.Goals as goal

pub returns : goal.returns
unfolding field_add field_mul field_sub
returns c = refl
