use Rattle.std.proofs.Common.{arith, refl}
use Rattle.p384_field.specs.Field.{field_mul, field_sub}
use Rattle.p384_curve.specs.Points.{base_x, base_y}
use Rattle.curve_laws.specs.P384.{of_chord, of_tangent}
use Rattle.curve_laws.proofs.p384.multiples_of_the_base_point.Goals as goal

pub returns-clause-double : goal.returns-clause-double
unfolding field_mul field_sub
returns-clause-double c =
    of_tangent 0x398e9bb647af27db82eb6364cba7d64252ab4c5d3bfcb59ef3c1276583b9a0aea40fa5894752d433118ffc8f4795bddf base_x base_y (λ same. absurd (omega arith)) refl

pub returns-clause-triple : goal.returns-clause-triple
unfolding field_mul field_sub
returns-clause-triple c =
    of_chord 0x2e3054142a14b8ca18c4162930d0cff587f46ef6a015ad40eaf9fd529e5dfacab873a2a104335fc5e9a443da964d50fd base_x base_y 0x8d999057ba3d2d969260045c55b97f089025959a6f434d651d207d19fb96e9e4fe0e86ebe0e64f85b96a9c75295df61 0x8e80f1fa5b1b3cedb7bfe8dffd6dba74b275d875bc6cc43e904e505f256ab4255ffd43e94d39e22d61501e700a940e80
    (λ same. absurd (omega arith)) refl
