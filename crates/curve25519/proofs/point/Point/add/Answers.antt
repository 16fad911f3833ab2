use Rattle.std.proofs.Common.{◌≡◌, ◌∙◌, ap}
use Rattle.field25519.specs.Field.{field_add, field_sub, field_mul}
use Rattle.curve25519.specs.Points.{addend_of, curve_d, point_add}
use Rattle.curve25519.proofs.PointLemmas.{field_mul-sum, field_mul-twice_d}
use Rattle.curve25519.proofs.point.Point.add.Goals as goal

pub returns : goal.returns
unfolding point_add addend_of
returns c = λ q is.
    let p = c.args.self.now in
    let other = c.args.other.now in
    let minus : other.y_minus_x ≡ field_sub q.y q.x = ap (λ r. r.y_minus_x) is in
    let plus : other.y_plus_x ≡ field_add q.y q.x = ap (λ r. r.y_plus_x) is in
    let scaled : field_mul p.t other.t_scaled ≡ field_mul (field_mul (field_mul p.t 2) curve_d) q.t =
    ap (λ r. field_mul p.t r.t_scaled) is ∙ field_mul-twice_d p.t q.t in
    let twice : field_mul p.z other.z_twice ≡ field_mul (field_mul p.z 2) q.z =
    ap (λ r. field_mul p.z r.z_twice) is ∙ field_mul-sum p.z q.z in
    cc
