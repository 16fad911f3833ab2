use Rattle.std.proofs.Common.{refl}
use Rattle.curve25519.specs.Points.{point_add}
use Rattle.group_laws.proofs.DigitLemmas.{sixteenfold-made, sum-made}
use Rattle.curve25519_multiples.proofs.windows.with_digit.Goals as goal

pub returns : goal.returns
returns c = λ p row.
    sum-made point_add _ _ _ _ _ (c.add.ensures _ (row.entry _ _ c.requires))
    (sixteenfold-made point_add _ _ _ _ _ c.doubled-twice.ensures c.doubled-four_times.ensures c.doubled-eight_times.ensures c.doubled.ensures) refl
