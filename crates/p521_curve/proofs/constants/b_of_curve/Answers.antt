use Rattle.std.proofs.Common.{refl, ◌∙◌}
use Rattle.p521_curve.proofs.constants.b_of_curve.Goals as goal

pub returns : goal.returns
returns c = c.from_words.ensures ∙ refl
