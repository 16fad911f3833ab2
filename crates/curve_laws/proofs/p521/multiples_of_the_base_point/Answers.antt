use Rattle.std.proofs.Common.{arith, refl}
use Rattle.p521_field.specs.Field.{field_mul, field_sub}
use Rattle.p521_curve.specs.Points.{base_x, base_y}
use Rattle.curve_laws.specs.P521.{of_chord, of_tangent}
use Rattle.curve_laws.proofs.p521.multiples_of_the_base_point.Goals as goal

pub returns-clause-double : goal.returns-clause-double
unfolding field_mul field_sub
returns-clause-double c =
    of_tangent 0x347ba3c40c0c430b0802c88f5d36562faf732eef3a40bef18ec2451904506e0ff0405300f0d5bf5f354a0e75f61880f49b9e4c63a204f704634bc157cb01e52c8 base_x base_y (λ same. absurd (omega arith)) refl

pub returns-clause-triple : goal.returns-clause-triple
unfolding field_mul field_sub
returns-clause-triple c =
    of_chord 0x70b1d367143a8c6ef56e7e797209f6540cd0edb39a4d948e21d29aedcd1257ef05924f2513666bf0bcf0c468ab5f52a589a13571fce0cb5c21ab15f4555f2ac7c0 base_x base_y 0x433c219024277e7e682fcb288148c282747403279b1ccc06352c6e5505d769be97b3b204da6ef55507aa104a3a35c5af41cf2fa364d60fd967f43e3933ba6d783d 0xf4bb8cc7f86db26700a7f3eceeeed3f0b5c6b5107c4da97740ab21a29906c42dbbb3e377de9f251f6b93937fa99a3248f4eafcbe95edc0f4f71be356d661f41b02
    (λ same. absurd (omega arith)) refl
