use Rattle.std.proofs.Common.{refl, ◌∙◌}
use Rattle.p521_curve.proofs.constants.three.Goals as goal

pub returns : goal.returns
returns c = c.from_words.ensures ∙ refl
