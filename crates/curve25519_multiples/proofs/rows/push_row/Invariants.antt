use Rattle.std.proofs.Common.{◌≡◌, ◌<◌, ◌+◌, ℕ, length, get_or}
use Rattle.curve25519.specs.declared.point.Addend.{Addend}
use Rattle.curve25519.specs.Points.{addend_of, neutral, point_add}
use Rattle.group_laws.specs.Digits.{times}
use Rattle.curve25519_multiples.proofs.rows.push_row.Given as goal

abbrev pub invariant-loop-place : goal.invariant-loop-place
invariant-loop-place l = record {
  next : l.entry ≡ times point_add neutral l._place l.step;
  size : length l.entries.items ≡ length l.initial.entries.items + l._place;
  kept : (k : ℕ) (other : Addend) → k < length l.initial.entries.items
      → get_or l.entries.items k other ≡ get_or l.initial.entries.items k other;
  row : (k : ℕ) (other : Addend) → k < l._place
      → get_or l.entries.items (length l.initial.entries.items + k) other ≡ addend_of (times point_add neutral k l.step);
}
