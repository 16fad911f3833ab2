use Rattle.std.proofs.Common.{◌∙◌, ap}
use Rattle.field25519.specs.Field.{field_mul}
use Rattle.curve25519.specs.Encoding.{encoded}
use Rattle.curve25519.proofs.PointLemmas.{field_mul-lt, number_of-signed}
use Rattle.curve25519.proofs.point.Point.encode.Goals as goal

pub returns : goal.returns
unfolding encoded
returns c =
    let p = c.args.self.now in
    number_of-signed _ _ _ _ _ _ _ _ _ _
    (c.y.view_is ∙ c.to_words-y.ensures ∙ c.mul-2.ensures ∙ ap (λ n. field_mul p.y n) c.inverse-inverse.ensures)
    (field_mul-lt _ _)
    (c.x.view_is ∙ c.to_words-x.ensures ∙ c.mul.ensures ∙ ap (λ n. field_mul p.x n) c.inverse-inverse.ensures)
