-- The cases of decoding.
use Rattle.std.proofs.Common.{◌≡◌, ◌<◌, ◌≤◌, inl, inr, ℕ, ◌/◌, ◌%◌, ◌^◌, arith, ap, sym, refl, ◌∙◌, true, false, nat_eq, nat_lt, Some, None, Option}
use Rattle.std.proofs.lemmas.Bool.{cases_lt, eq-eqb, eqb-false, eqb-true, le-ltb, lt-ltb, ne_eqb}
use Rattle.std.proofs.Math.Nat.{mod-eq_of_lt}
use Rattle.field25519.specs.Field.{prime, field_mul, field_sub, field_add}
use Rattle.words64.specs.Numbers.{number_of}
use Rattle.curve25519.specs.declared.point.Point.{Point}
use Rattle.curve25519.specs.Points.{curve_d, point_at}
use Rattle.curve25519.specs.Encoding.{decoded, point_of, recovered_x, root_candidate, root_of_minus_one, signed_root, square_root, with_sign}

-- the first case of step 3
pub square_root-first : (u v x w : ℕ) → x ≡ root_candidate u v → w ≡ field_mul v (field_mul x x)
    → nat_eq w u ≡ true
    → Some x ≡ square_root u v
unfolding square_root
square_root-first u v x w x_is w_is same =
    let test : nat_eq (field_mul v (field_mul (root_candidate u v) (root_candidate u v))) u ≡ true = rw (← x_is) (rw (← w_is) same) in
    rw test (ap (λ n. Some n) x_is)

-- the second
pub square_root-second : (u v x w y : ℕ) → x ≡ root_candidate u v → w ≡ field_mul v (field_mul x x)
    → nat_eq w u ≡ false
    → nat_eq w (field_sub 0 u) ≡ true → y ≡ field_mul x root_of_minus_one → Some y ≡ square_root u v
unfolding square_root
square_root-second u v x w y x_is w_is other opposite y_is =
    let test : nat_eq (field_mul v (field_mul (root_candidate u v) (root_candidate u v))) u ≡ false = rw (← x_is) (rw (← w_is) other) in
    let second : nat_eq (field_mul v (field_mul (root_candidate u v) (root_candidate u v))) (field_sub 0 u) ≡ true =
    rw (← x_is) (rw (← w_is) opposite) in
    rw (test, second) (ap (λ n. Some n) (y_is ∙ ap (λ n. field_mul n root_of_minus_one) x_is))

-- the third
pub square_root-none : (u v x w : ℕ) → x ≡ root_candidate u v → w ≡ field_mul v (field_mul x x)
    → nat_eq w u ≡ false
    → nat_eq w (field_sub 0 u) ≡ false → None ≡ square_root u v
unfolding square_root
square_root-none u v x w x_is w_is other neither =
    let test : nat_eq (field_mul v (field_mul (root_candidate u v) (root_candidate u v))) u ≡ false = rw (← x_is) (rw (← w_is) other) in
    let second : nat_eq (field_mul v (field_mul (root_candidate u v) (root_candidate u v))) (field_sub 0 u) ≡ false =
    rw (← x_is) (rw (← w_is) neither) in
    rw (test, second) refl

-- the steps that make u and v of y
pub recovered_x-root : (sign y yy one u0 u d m again v0 v : ℕ) (root out : Option ℕ)
    → yy ≡ field_mul y y → one ≡ 1
    → u0 ≡ field_sub yy one → u ≡ u0 → d ≡ curve_d → m ≡ field_mul d yy → again ≡ 1 → v0 ≡ field_add m again → v ≡ v0
    → root ≡ square_root u v → out ≡ signed_root sign root → out ≡ recovered_x sign y
unfolding recovered_x
recovered_x-root sign y yy one u0 u d m again v0 v root out e1 e2 e3 e4 e5 e6 e7 e8 e9 e10 e11 = cc

pub signed_root-some : (sign x : ℕ) (root out : Option ℕ) → root ≡ Some x → out ≡ with_sign sign x
    → out ≡ signed_root sign root
unfolding signed_root
signed_root-some sign x root out root_is is = rw root_is is

pub signed_root-none : (sign : ℕ) (root : Option ℕ) → root ≡ None → None ≡ signed_root sign root
unfolding signed_root
signed_root-none sign root root_is = rw root_is refl

-- step 4: the root that was found has the sign's parity
pub with_sign-same : (sign x parity : ℕ) → parity ≡ x % 2 → parity ≡ sign
    → Some x ≡ with_sign sign x
unfolding with_sign
with_sign-same sign x parity parity_is same =
    let test : nat_eq (x % 2) sign ≡ true = eq-eqb (x % 2) sign (sym parity_is ∙ same) in
    elim (cases_lt x 1) [
      | inl below ↦
          let zero : x ≡ 0 = omega arith in
          let none : sign ≡ 0 = omega (arith, zero) in
          rw (zero, none) refl
      | inr above ↦
          let other : nat_eq x 0 ≡ false = ne_eqb x 0 (λ is. omega (arith, is)) in
          rw (other, test) refl
    ]

-- 0 has no root of the other parity
pub with_sign-zero : (sign x parity : ℕ) → sign ≤ 1 → parity ≡ x % 2 → (parity ≡ sign → ⊥)
    → nat_eq x 0 ≡ true → None ≡ with_sign sign x
unfolding with_sign
with_sign-zero sign x parity bit parity_is differs is =
    let zero : x ≡ 0 = eqb-true x 0 is in
    let some : sign ≡ 1 = grind (arith, zero) in
    rw (zero, some) refl

-- another root has p less it
pub with_sign-other : (sign x y parity : ℕ) → parity ≡ x % 2 → (parity ≡ sign → ⊥)
    → nat_eq x 0 ≡ false → y ≡ field_sub 0 x
    → Some y ≡ with_sign sign x
unfolding with_sign
with_sign-other sign x y parity parity_is differs some y_is =
    let test : nat_eq (x % 2) sign ≡ false = ne_eqb (x % 2) sign (λ same. differs (parity_is ∙ same)) in
    rw (some, test) (ap (λ n. Some n) y_is)

-- the number without its highest bit, and that bit
low_bits : (w0 w1 w2 w3 : ℕ) → w0 < 2 ^ 64 → w1 < 2 ^ 64 → w2 < 2 ^ 64
    → number_of w0 w1 w2 (w3 % 2 ^ 63) ≡ number_of w0 w1 w2 w3 % 2 ^ 255
low_bits w0 w1 w2 w3 h0 h1 h2 = omega arith

pub low-part : (w0 w1 w2 w3 number : ℕ) → w0 < 2 ^ 64 → w1 < 2 ^ 64 → w2 < 2 ^ 64
    → number_of w0 w1 w2 w3 ≡ number
    → number_of w0 w1 w2 (w3 % 2 ^ 63) ≡ number % 2 ^ 255
low-part w0 w1 w2 w3 number h0 h1 h2 is = low_bits w0 w1 w2 w3 h0 h1 h2 ∙ ap (λ n. n % 2 ^ 255) is

pub high-part : (w0 w1 w2 w3 number : ℕ) → w0 < 2 ^ 64 → w1 < 2 ^ 64 → w2 < 2 ^ 64
    → number_of w0 w1 w2 w3 ≡ number
    → w3 / 2 ^ 63 ≡ number / 2 ^ 255
high-part w0 w1 w2 w3 number h0 h1 h2 is = omega arith

not-below : (y : ℕ) → nat_eq (y % prime) y ≡ false → nat_lt y prime ≡ false
not-below y other =
    elim (cases_lt y prime) [
      | inl below ↦ absurd (eqb-false (y % prime) y other (mod-eq_of_lt below))
      | inr above ↦ le-ltb y prime above
    ]

below-prime : (y : ℕ) → nat_eq (y % prime) y ≡ true → (nat_lt y prime ≡ true) × (y % prime ≡ y)
below-prime y same =
    let is : y % prime ≡ y = eqb-true (y % prime) y same in
    (lt-ltb y prime (omega (arith, is)), is)

-- step 1 refuses a y that its residue differs from
pub decoded-refused : (n low y : ℕ) → low ≡ n % 2 ^ 255 → y ≡ low % prime → nat_eq y low ≡ false
    → None ≡ decoded n
unfolding decoded
decoded-refused n low y low_is y_is other =
    let above : nat_lt low prime ≡ false = not-below low (rw (← y_is) other) in
    let refused : nat_lt (n % 2 ^ 255) prime ≡ false = rw (← low_is) above in
    rw refused refl

-- else the point is that of its y and x
pub decoded-point : (n low y sign : ℕ) (x : Option ℕ) (out : Option Point) → low ≡ n % 2 ^ 255
    → sign ≡ n / 2 ^ 255
    → y ≡ low % prime → nat_eq y low ≡ true → x ≡ recovered_x sign y → out ≡ point_of y x → out ≡ decoded n
unfolding decoded
decoded-point n low y sign x out low_is sign_is y_is same x_is is =
    let below : (nat_lt low prime ≡ true) × (low % prime ≡ low) = below-prime low (rw (← y_is) same) in
    let taken : nat_lt (n % 2 ^ 255) prime ≡ true = rw (← low_is) below.0 in
    let here : y ≡ n % 2 ^ 255 = y_is ∙ below.1 ∙ low_is in
    rw taken
    (is
    ∙ ap (λ z. point_of z x) here
    ∙ ap (λ w. point_of (n % 2 ^ 255) w) (x_is ∙ ap (λ z. recovered_x z y) sign_is ∙ ap (λ z. recovered_x (n / 2 ^ 255) z) here))

pub point_of-some : (x y : ℕ) (found : Option ℕ) (p : Point) → found ≡ Some x → p ≡ point_at x y
    → Some p ≡ point_of y found
unfolding point_of
point_of-some x y found p found_is p_is = rw (found_is, p_is) refl

pub point_of-none : (y : ℕ) (found : Option ℕ) → found ≡ None → None ≡ point_of y found
unfolding point_of
point_of-none y found found_is = rw found_is refl
