use Rattle.std.proofs.Common.{◌≡◌, ◌<◌, ◌*◌, ◌/◌, ◌%◌, ℕ, length, get_or}
use Rattle.p521_curve.specs.declared.point.Point.{Point}
use Rattle.p521_curve.specs.Points.{base, neutral, point_add}
use Rattle.group_laws.specs.Digits.{step_of, times}
use Rattle.p521_multiples.proofs.table.BaseTable.new.Given as goal

abbrev pub invariant-loop-row : goal.invariant-loop-row
invariant-loop-row l = record {
  size : length l.entries.items ≡ 32 * l._row;
  next : l.step ≡ step_of point_add neutral l._row base;
  entry : (place : ℕ) (other : Point) → place < 32 * l._row
      → get_or l.entries.items place other
      ≡ times point_add neutral (place % 32) (step_of point_add neutral (place / 32) base);
}
