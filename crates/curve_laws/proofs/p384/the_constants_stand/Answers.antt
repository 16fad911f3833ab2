use Rattle.std.proofs.Common.{arith, refl}
use Rattle.p384_field.specs.Field.{field_add, field_mul, field_sub}
use Rattle.p384_curve.specs.Points.{base, base_x, base_y, neutral, point_at}
use Rattle.curve_laws.specs.P384.{for_finite, for_infinity}
use Rattle.curve_laws.proofs.p384.the_constants_stand.Goals as goal

pub returns-clause-infinity : goal.returns-clause-infinity
unfolding neutral
returns-clause-infinity c =
    for_infinity (record { x_is = refl; z_is = refl }) (record { some = omega arith; below = omega arith })

pub returns-clause-base : goal.returns-clause-base
unfolding base point_at field_add field_mul field_sub
returns-clause-base c =
    for_finite base_x base_y
    (record { x_below = omega arith; y_below = omega arith; on_curve = refl })
    (record { x_is = refl; y_is = refl })
    (record { some = omega arith; below = omega arith })
