-- The cases of decoding.
use Rattle.std.proofs.Common.{◌≡◌, ◌%◌, ℕ, refl, ◌∙◌, true, false, nat_lt, List, take, drop, Some, None, Option, slice_index}
use Rattle.std.proofs.lemmas.Bool.{eq-eqb, ne_eqb, ltb-true}
use Rattle.std.proofs.Math.Nat.{mod-eq_of_lt}
use Rattle.wide_words.specs.Numbers.{big_endian}
use Rattle.p521_field.specs.Field.{prime}
use Rattle.p521_curve.specs.declared.point.Point.{Point}
use Rattle.p521_curve.specs.Points.{point_at}
use Rattle.p521_curve.specs.Encoding.{decoded, is_on_curve, valid_point}

pub valid_point-x : (x y p : ℕ) → p ≡ prime → nat_lt x p ≡ false → None ≡ valid_point x y
unfolding valid_point
valid_point-x x y p p_is above = let test : nat_lt x prime ≡ false = rw p_is at above in rw test refl

pub valid_point-y : (x y p : ℕ) → p ≡ prime → nat_lt x p ≡ true → nat_lt y p ≡ false → None ≡ valid_point x y
unfolding valid_point
valid_point-y x y p p_is x_below above =
    let first : nat_lt x prime ≡ true = rw p_is at x_below in
    let second : nat_lt y prime ≡ false = rw p_is at above in
    rw (first, second) refl

pub valid_point-off : (x y p a b : ℕ) → p ≡ prime → nat_lt x p ≡ true → nat_lt y p ≡ true → a ≡ x % prime → b ≡ y % prime
    → is_on_curve a b ≡ false → None ≡ valid_point x y
unfolding valid_point
valid_point-off x y p a b p_is x_below y_below a_is b_is off =
    let first : nat_lt x prime ≡ true = rw p_is at x_below in
    let second : nat_lt y prime ≡ true = rw p_is at y_below in
    let a_same : a ≡ x = a_is ∙ mod-eq_of_lt (ltb-true x prime first) in
    let b_same : b ≡ y = b_is ∙ mod-eq_of_lt (ltb-true y prime second) in
    let third : is_on_curve x y ≡ false = rw (← a_same, ← b_same) off in
    rw (first, second, third) refl

pub valid_point-on : (x y p a b : ℕ) (made : Point) → p ≡ prime → nat_lt x p ≡ true → nat_lt y p ≡ true → a ≡ x % prime → b ≡ y % prime
    → is_on_curve a b ≡ true → made ≡ point_at a b → Some made ≡ valid_point x y
unfolding valid_point
valid_point-on x y p a b made p_is x_below y_below a_is b_is on made_is =
    let first : nat_lt x prime ≡ true = rw p_is at x_below in
    let second : nat_lt y prime ≡ true = rw p_is at y_below in
    let a_same : a ≡ x = a_is ∙ mod-eq_of_lt (ltb-true x prime first) in
    let b_same : b ≡ y = b_is ∙ mod-eq_of_lt (ltb-true y prime second) in
    let third : is_on_curve x y ≡ true = rw (← a_same, ← b_same) on in
    rw (first, second, third) (rw (made_is, a_same, b_same) refl)

pub decoded-other : (bytes : List ℕ) → (slice_index bytes 0 ≡ 4 → ⊥) → None ≡ decoded bytes
unfolding decoded
decoded-other bytes other = rw (ne_eqb (slice_index bytes 0) 4 other) refl

pub decoded-point : (bytes : List ℕ) (x y : ℕ) (out : Option Point) → slice_index bytes 0 ≡ 4
    → x ≡ big_endian (take 66 (drop 1 bytes)) → y ≡ big_endian (take 66 (drop 67 bytes))
    → out ≡ valid_point x y → out ≡ decoded bytes
unfolding decoded
decoded-point bytes x y out four x_is y_is is =
    rw (eq-eqb (slice_index bytes 0) 4 four) (is ∙ rw (x_is, y_is) refl)
