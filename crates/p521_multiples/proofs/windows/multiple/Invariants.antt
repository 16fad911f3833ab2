use Rattle.std.proofs.Common.{◌-◌, ◌/◌, ◌^◌}
use Rattle.curve_laws.specs.P521.{Affine, StandsFor}
use Rattle.group_laws.proofs.P521MultipleLemmas.{Stands}
use Rattle.p521_multiples.proofs.windows.multiple.Given as goal

abbrev pub invariant-loop-place : goal.invariant-loop-place
invariant-loop-place l =
    (x : Affine) → StandsFor l.point x → Stands x l.sum (l.s / 256 ^ (66 - l.place))
