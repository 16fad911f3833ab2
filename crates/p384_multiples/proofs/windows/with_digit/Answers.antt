use Rattle.p384_curve.specs.Points.{point_add}
use Rattle.group_laws.proofs.DigitLemmas.{sixteenfold-made, sum-made}
use Rattle.p384_multiples.proofs.windows.with_digit.Goals as goal

pub returns : goal.returns
returns c = λ p row.
    sum-made point_add _ _ _ _ _ c.add-2.ensures
    (sixteenfold-made point_add _ _ _ _ _ c.add-twice.ensures c.add-four_times.ensures c.add-eight_times.ensures c.add.ensures)
    (row.entry _ _ c.requires)
