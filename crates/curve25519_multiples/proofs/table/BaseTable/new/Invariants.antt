use Rattle.std.proofs.Common.{◌≡◌, ◌<◌, ◌*◌, ◌/◌, ◌%◌, ℕ, length, get_or}
use Rattle.curve25519.specs.declared.point.Addend.{Addend}
use Rattle.curve25519.specs.Points.{addend_of, base, neutral, point_add}
use Rattle.group_laws.specs.Digits.{step_of, times}
use Rattle.curve25519_multiples.proofs.table.BaseTable.new.Given as goal

abbrev pub invariant-loop-row : goal.invariant-loop-row
invariant-loop-row l = record {
  size : length l.entries.items ≡ 32 * l._row;
  next : l.step ≡ step_of point_add neutral l._row base;
  entry : (place : ℕ) (other : Addend) → place < 32 * l._row
      → get_or l.entries.items place other
      ≡ addend_of (times point_add neutral (place % 32) (step_of point_add neutral (place / 32) base));
}
