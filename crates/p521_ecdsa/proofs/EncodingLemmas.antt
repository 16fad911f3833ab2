-- Which bytes are the encoding of a point.
use Rattle.std.proofs.Common.{◌≡◌, ◌<◌, ℕ, ◌%◌, List, ◌∷◌, ◌++◌, Bool, true, false, not, nat_eq, arith, ap, refl, sym, ◌∙◌}
use Rattle.std.proofs.Math.Nat.{mod-lt}
use Rattle.std.proofs.lemmas.Bool.{both_ways, eq-eqb, eqb-true, not-false}
use lib.Pointwise.{pointwise, bytes_decides}
use lib.Dec.{eqb}
use Rattle.wide_words.specs.Numbers.{octets}
use Rattle.p521_field.specs.Field.{field_inv, field_mul, prime}
use Rattle.p521_curve.specs.declared.point.Point.{Point}
use Rattle.p521_curve.specs.Encoding.{affine_x, affine_y, encoded}
use Rattle.curve_laws.specs.P521.{Affine, IsNonzero, StandsFor, for_finite, for_infinity}
use Rattle.curve_laws.proofs.P521RootLemmas.{power-is-inverse}
use Rattle.curve_laws.proofs.UnitLemmas.{quotient-is}

-- ---- what a comparison of bytes says

pub bytes-same : (made bytes key : List ℕ) → made ≡ key → true ≡ pointwise eqb made bytes → bytes ≡ key
bytes-same made bytes key made_is test = sym ((bytes_decides made bytes).0 (sym test)) ∙ made_is

pub bytes-differ : (made bytes key : List ℕ) → made ≡ key → false ≡ pointwise eqb made bytes → bytes ≡ key → ⊥
bytes-differ made bytes key made_is test same =
    both_ways (pointwise eqb made bytes) (sym test) ((bytes_decides made bytes).1 (made_is ∙ sym same))

pub not-unlike : (made bytes key : List ℕ) → made ≡ key → false ≡ not (pointwise eqb made bytes) → bytes ≡ key
not-unlike made bytes key made_is test = bytes-same made bytes key made_is (sym (not-false (pointwise eqb made bytes) (sym test)))

-- ---- x and y are the quotients by Z

-- a Z that isn't 0
nonzero : (p : Point) (z : Affine) → StandsFor p z → false ≡ nat_eq p.z 0 → IsNonzero p.z
nonzero p _ (for_infinity at _) test = absurd (both_ways (nat_eq p.z 0) (sym test) (eq-eqb p.z 0 at.z_is))
nonzero p _ (for_finite _ _ _ _ some) test = some

quotient-x : (p : Point) (x : ℕ) → IsNonzero p.z → x < prime → field_mul x p.z ≡ p.x → x ≡ affine_x p
unfolding affine_x field_mul
quotient-x p x some below is = sym (quotient-is prime x p.z (field_inv p.z) p.x (sym is) (power-is-inverse p.z some) below)

quotient-y : (p : Point) (y : ℕ) → IsNonzero p.z → y < prime → field_mul y p.z ≡ p.y → y ≡ affine_y p
unfolding affine_y field_mul
quotient-y p y some below is = sym (quotient-is prime y p.z (field_inv p.z) p.y (sym is) (power-is-inverse p.z some) below)

settled : (x n : ℕ) → x ≡ n % prime → x < prime
settled x n is = rw is (mod-lt n {m = prime} (omega arith))

-- the tests that the bytes passed
pub seen-encoded : (p : Point) (z : Affine) (bytes made : List ℕ) (x y n m nought x_z y_z : ℕ) → StandsFor p z
    → x ≡ n % prime → y ≡ m % prime → made ≡ 4 ∷ (octets 66 x ++ octets 66 y) → false ≡ not (pointwise eqb made bytes)
    → nought ≡ 0 → false ≡ nat_eq p.z nought → x_z ≡ field_mul x p.z → true ≡ nat_eq x_z p.x
    → y_z ≡ field_mul y p.z → true ≡ nat_eq y_z p.y → bytes ≡ encoded p
unfolding encoded
seen-encoded p z bytes made x y n m nought x_z y_z stands x_is y_is made_is same none z_test x_z_is x_test y_z_is y_test =
    let some = nonzero p z stands (z_test ∙ ap (nat_eq p.z) none) in
    let x_passes = sym x_z_is ∙ eqb-true x_z p.x (sym x_test) in
    let y_passes = sym y_z_is ∙ eqb-true y_z p.y (sym y_test) in
    not-unlike made bytes _ made_is same
    ∙ ap (λ k. 4 ∷ (octets 66 k ++ octets 66 y)) (quotient-x p x some (settled x n x_is) x_passes)
    ∙ ap (λ k. 4 ∷ (octets 66 (affine_x p) ++ octets 66 k)) (quotient-y p y some (settled y m y_is) y_passes)
