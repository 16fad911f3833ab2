-- The sum of two multiples, in whatever coordinates.
use Rattle.std.proofs.Common.{◌≡◌, ◌<◌, ◌^◌, ℕ, ap, ◌∙◌}
use Rattle.curve25519.specs.declared.point.Point.{Point}
use Rattle.curve25519.specs.Encoding.{encoded}
use Rattle.curve25519.specs.Multiples.{multiply}
use Rattle.curve25519.specs.Points.{base, negated, point_add}
use Rattle.edwards_laws.specs.Points.{Affine, HasPoint, IsPointSum, StandsFor, base_point, neutral_point}
use Rattle.edwards_laws.proofs.DecodedLemmas.{negated-stands}
use Rattle.edwards_laws.proofs.EncodedLemmas.{same-encoding}
use Rattle.edwards_laws.proofs.MultipleLemmas.{base-stands, formula, multiply-makes}
use Rattle.group_laws.specs.Groups.{IsMultiple}
use Rattle.group_laws.proofs.LoopLemmas.{sums-stand-alike}

-- these coordinates stand for [k]B
abbrev pub IsMultipleOfBase : ℕ → Point → Type 0
IsMultipleOfBase k point = (z : Affine) → IsMultiple IsPointSum neutral_point base_point k z → StandsFor point z

-- and these for [k]Q
abbrev pub IsMultipleOf : Point → ℕ → Point → Type 0
IsMultipleOf q k point =
    (x z : Affine) → StandsFor q x → IsMultiple IsPointSum neutral_point x k z → StandsFor point z

-- their sum is encoded as that of what `multiply` has
pub sum-encoded : (q left right : Point) (a b : ℕ) → HasPoint q → a < 2 ^ 256 → b < 2 ^ 256
    → IsMultipleOfBase a left → IsMultipleOf q b right
    → encoded (point_add left right) ≡ encoded (point_add (multiply a base) (multiply b q))
sum-encoded q left right a b q_is a_below b_below left_is right_is =
    let sums =
    sums-stand-alike formula base_point q_is.p base-stands.is_point q_is.is.is_point a b
    left right (multiply a base) (multiply b q) left_is (λ z z_is. right_is q_is.p z q_is.is z_is)
    (λ z z_is. multiply-makes a base base_point z a_below base-stands z_is) (λ z z_is. multiply-makes b q q_is.p z b_below q_is.is z_is) in
    same-encoding (point_add left right) (point_add (multiply a base) (multiply b q)) sums.x sums.first sums.second

-- the same of the opposite of a point
pub sum-opposite : (a opposite left right sum : Point) (s k : ℕ) → HasPoint a → opposite ≡ negated a
    → sum ≡ point_add left right → s < 2 ^ 256 → k < 2 ^ 256
    → IsMultipleOfBase s left → IsMultipleOf opposite k right
    → encoded sum ≡ encoded (point_add (multiply s base) (multiply k (negated a)))
sum-opposite a opposite left right sum s k a_is opposite_is sum_is s_below k_below left_is right_is =
    ap encoded sum_is
    ∙ sum-encoded (negated a) left right s k (negated-stands a a_is.p a_is.is) s_below k_below left_is
    (rw opposite_is at right_is)
