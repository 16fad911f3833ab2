use Rattle.std.proofs.Common.{◌-◌, ◌/◌, ◌^◌}
use Rattle.edwards_laws.specs.Points.{Affine, StandsFor}
use Rattle.edwards_laws.proofs.MultipleLemmas.{Stands}
use Rattle.curve25519_multiples.proofs.windows.multiple.Given as goal

abbrev pub invariant-loop-turn : goal.invariant-loop-turn
invariant-loop-turn l =
    (x : Affine) → StandsFor l.point x → Stands x l.sum (l.s / 256 ^ (32 - l.turn))
