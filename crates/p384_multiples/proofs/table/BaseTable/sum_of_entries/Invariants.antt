use Rattle.std.proofs.Common.{◌≡◌, ◌-◌}
use Rattle.p384_curve.specs.Points.{base, neutral, point_add}
use Rattle.group_laws.specs.Digits.{by_digits}
use Rattle.p384_multiples.proofs.table.BaseTable.sum_of_entries.Given as goal

abbrev pub invariant-loop-row : goal.invariant-loop-row
invariant-loop-row l =
    by_digits point_add neutral (77 - l.row) l.row l.rest base l.sum ≡ by_digits point_add neutral 77 0 l.s base neutral
