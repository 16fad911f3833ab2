-- The cases of section 5.1.7.
use Rattle.std.proofs.Common.{◌≡◌, ℕ, List, take, drop, refl, ◌∙◌, Bool, true, false, nat_eq, nat_lt, Some, None, Option}
use Rattle.words64.specs.Numbers.{little_endian}
use Rattle.scalar25519.specs.Scalars.{order}
use Rattle.curve25519.specs.declared.point.Point.{Point}
use Rattle.curve25519.specs.Points.{base, negated, point_add}
use Rattle.curve25519.specs.Multiples.{multiply}
use Rattle.curve25519.specs.Encoding.{decoded, encoded}
use Rattle.ed25519.specs.Signatures.{challenge}
use Rattle.ed25519.specs.Verification.{accepts, meets}

-- S isn't below L
pub accepts-refused : (public message signature : List ℕ) (s : ℕ)
    → s ≡ little_endian (take 32 (drop 32 signature))
    → nat_lt s order ≡ false → false ≡ accepts public message signature
unfolding accepts
accepts-refused public message signature s s_is above =
    let test : nat_lt (little_endian (take 32 (drop 32 signature))) order ≡ false = rw (← s_is) above in
    rw test refl

-- S is below L
pub accepts-meets : (public message signature : List ℕ) (s r k : ℕ) (point : Option Point) (out : Bool)
    → s ≡ little_endian (take 32 (drop 32 signature)) → nat_lt s order ≡ true → r ≡ little_endian (take 32 signature)
    → k ≡ challenge (take 32 signature) public message → point ≡ decoded (little_endian public) → out ≡ meets r s k point
    → out ≡ accepts public message signature
unfolding accepts
accepts-meets public message signature s r k point out s_is below r_is k_is point_is is =
    let test : nat_lt (little_endian (take 32 (drop 32 signature))) order ≡ true = rw (← s_is) below in
    rw test (is ∙ cc)

pub meets-some : (r s k : ℕ) (a : Point) (point : Option Point) (out : Bool) → point ≡ Some a
    → out ≡ nat_eq (encoded (point_add (multiply s base) (multiply k (negated a)))) r → out ≡ meets r s k point
unfolding meets
meets-some r s k a point out point_is is = rw point_is is

pub meets-none : (r s k : ℕ) (point : Option Point) → point ≡ None → false ≡ meets r s k point
unfolding meets
meets-none r s k point point_is = rw point_is refl
