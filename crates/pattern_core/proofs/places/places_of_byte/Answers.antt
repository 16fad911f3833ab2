use Rattle.std.proofs.Common.{eqb, ap, ◌∙◌, arith, w8}
use Rattle.std.proofs.lemmas.Simd.{bitmask_splat}
use Rattle.pattern_core.specs.Pieces.{has_place}
use Rattle.pattern_core.proofs.PlaceLemmas.{has_place-mask}
use Rattle.pattern_core.proofs.places.places_of_byte.Goals as goal

pub returns : goal.returns
returns c k below =
    ap (λ word. has_place word k) (bitmask_splat w8 eqb c.args.bytes 64 c.args.wanted c.requires (omega arith))
    ∙ has_place-mask (λ byte. eqb byte c.args.wanted) c.args.bytes k (omega (arith, c.requires))
