use Rattle.std.proofs.Common.{◌≡◌, ◌<◌, ℕ, length, get_or}
use Rattle.p256_curve.specs.declared.point.Point.{Point}
use Rattle.p256_curve.specs.Points.{neutral, point_add}
use Rattle.group_laws.specs.Digits.{times}
use Rattle.p256_multiples.proofs.windows.row_of.Given as goal

abbrev pub invariant-loop-place : goal.invariant-loop-place
invariant-loop-place l = record {
  next : l.entry ≡ times point_add neutral l.place l.point;
  size : length l.row ≡ 16;
  entry : (place : ℕ) (other : Point) → place < l.place → get_or l.row place other ≡ times point_add neutral place l.point;
}
