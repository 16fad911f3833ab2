use Rattle.std.proofs.Common.{◌-◌, ◌/◌, ◌^◌}
use Rattle.curve_laws.specs.P384.{Affine, StandsFor}
use Rattle.group_laws.proofs.P384MultipleLemmas.{Stands}
use Rattle.p384_multiples.proofs.windows.multiple.Given as goal

abbrev pub invariant-loop-place : goal.invariant-loop-place
invariant-loop-place l =
    (x : Affine) → StandsFor l.point x → Stands x l.sum (l.s / 256 ^ (48 - l.place))
