use Rattle.std.proofs.Common.{arith, refl}
use Rattle.p256_field.specs.Field.{field_mul, field_sub}
use Rattle.p256_curve.specs.Points.{base_x, base_y}
use Rattle.curve_laws.specs.P256.{of_chord, of_tangent}
use Rattle.curve_laws.proofs.p256.multiples_of_the_base_point.Goals as goal

pub returns-clause-double : goal.returns-clause-double
unfolding field_mul field_sub
returns-clause-double c =
    of_tangent 0xa249bcb3191802d3cb56fc75a8731f848e7b2caf080f3477a4e4d904a671af9d base_x base_y (λ same. absurd (omega arith)) refl

pub returns-clause-triple : goal.returns-clause-triple
unfolding field_mul field_sub
returns-clause-triple c =
    of_chord 0x28cdb0fe6681d140c59fb73f85f16459ca4cee083742bada762de4ca226a8086 base_x base_y 0x7cf27b188d034f7e8a52380304b51ac3c08969e277f21b35a60b48fc47669978 0x7775510db8ed040293d9ac69f7430dbba7dade63ce982299e04b79d227873d1
    (λ same. absurd (omega arith)) refl
