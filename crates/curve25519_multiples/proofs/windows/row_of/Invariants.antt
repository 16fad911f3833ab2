use Rattle.std.proofs.Common.{◌≡◌, ◌<◌, ℕ, length, get_or}
use Rattle.curve25519.specs.declared.point.Addend.{Addend}
use Rattle.curve25519.specs.Points.{addend_of, neutral, point_add}
use Rattle.group_laws.specs.Digits.{times}
use Rattle.curve25519_multiples.proofs.windows.row_of.Given as goal

abbrev pub invariant-loop-place : goal.invariant-loop-place
invariant-loop-place l = record {
  next : l.entry ≡ times point_add neutral l.place l.point;
  size : length l.row ≡ 16;
  entry : (place : ℕ) (other : Addend) → place < l.place
      → get_or l.row place other ≡ addend_of (times point_add neutral place l.point);
}
