use Rattle.std.proofs.Common.{◌≡◌, ◌/◌, ◌^◌, ◌-◌, leb, sym, subst}
use Rattle.pattern_core.proofs.PlaceLemmas.{has_place-to}
use Rattle.pattern_core.specs.Pieces.{has_place}
use Rattle.pattern_core.proofs.places.places_to.Goals as goal

pub returns : goal.returns
returns c k below =
    subst (λ m. has_place (18446744073709551615 / 2 ^ (63 - m)) k ≡ leb k c.args.last) (sym c.min.ensures)
    (has_place-to c.args.last k below)
