-- The sum of two multiples, in whatever coordinates.
use Rattle.std.proofs.Common.{◌≡◌, ◌<◌, ◌*◌, ◌^◌, ℕ, arith}
use Rattle.std.proofs.lemmas.Nat.{mod_below}
use Rattle.p384_order.specs.Scalars.{order, scalar_mul}
use Rattle.p384_curve.specs.declared.point.Point.{Point}
use Rattle.p384_curve.specs.Points.{base, base_x, base_y, point_add}
use Rattle.p384_curve.specs.Multiples.{multiply}
use Rattle.p384_curve.specs.Encoding.{affine_x}
use Rattle.curve_laws.specs.P384.{Affine, At, HasPoint, Infinity, IsGroupSum, StandsFor}
use Rattle.curve_laws.proofs.P384SameLemmas.{same-x}
use Rattle.group_laws.specs.Groups.{IsMultiple}
use Rattle.group_laws.proofs.LoopLemmas.{sums-stand-alike}
use Rattle.group_laws.proofs.P384MultipleLemmas.{base-stands, formula, multiply-makes, stands-for-point}

-- these coordinates stand for [k]G
abbrev pub IsMultipleOfBase : ℕ → Point → Type 0
IsMultipleOfBase k point = (z : Affine) → IsMultiple IsGroupSum Infinity (At base_x base_y) k z → StandsFor point z

-- and these for [k]Q
abbrev pub IsMultipleOf : Point → ℕ → Point → Type 0
IsMultipleOf q k point =
    (x z : Affine) → StandsFor q x → IsMultiple IsGroupSum Infinity x k z → StandsFor point z

-- a product modulo n has at most so many bits
pub product-within : (x y : ℕ) → scalar_mul x y < 2 ^ 384
unfolding scalar_mul
product-within x y =
    let some : 0 < order = omega arith in
    let below = mod_below (x * y) order some in
    omega arith

-- their sum has the x that `multiply` has
pub sum-x : (q left right : Point) (a b : ℕ) → HasPoint q → a < 2 ^ 384 → b < 2 ^ 384
    → IsMultipleOfBase a left → IsMultipleOf q b right
    → affine_x (point_add left right) ≡ affine_x (point_add (multiply a base) (multiply b q))
sum-x q left right a b q_is a_below b_below left_is right_is =
    let g = At base_x base_y in
    let at = At q_is.x q_is.y in
    let sums =
    sums-stand-alike formula g at (stands-for-point base g base-stands) (stands-for-point q at q_is.is) a b
    left right (multiply a base) (multiply b q) left_is (λ z z_is. right_is at z q_is.is z_is)
    (λ z z_is. multiply-makes a base g z a_below base-stands z_is) (λ z z_is. multiply-makes b q at z b_below q_is.is z_is) in
    same-x (point_add left right) (point_add (multiply a base) (multiply b q)) sums.x sums.first sums.second
