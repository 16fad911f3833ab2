-- What the addition and the encoding of points need of the field.
use Rattle.std.proofs.Common.{◌≡◌, ◌<◌, ℕ, ◌+◌, ◌*◌, ◌%◌, ◌^◌, arith, ap, sym, ◌∙◌}
use Rattle.std.proofs.lemmas.Nat.{mul-mod_first, mul-mod_second, mod_below}
use Rattle.field25519.specs.Field.{prime, field_mul, field_add}
use Rattle.words64.specs.Numbers.{number_of}
use Rattle.curve25519.specs.Points.{curve_d, twice_d}

pub field_mul-lt : (a b : ℕ) → field_mul a b < prime
unfolding field_mul
field_mul-lt a b = mod_below (a * b) prime (omega arith)

twice_d-mod : (x : ℕ) → x * twice_d % prime ≡ x * 2 * curve_d % prime
twice_d-mod x = omega arith

regrouped : (a b m : ℕ) → a * (b * m) ≡ a * b * m
regrouped a b m = omega arith

moved : (a b d : ℕ) → a * b * 2 * d ≡ a * 2 * d * b
moved a b d = omega arith

-- C of the addition: the T of the second point may be multiplied by 2 d before
pub field_mul-twice_d : (a b : ℕ)
    → field_mul a (field_mul b twice_d) ≡ field_mul (field_mul (field_mul a 2) curve_d) b
unfolding field_mul
field_mul-twice_d a b =
    mul-mod_second a (b * twice_d) prime
    ∙ ap (λ n. n % prime) (regrouped a b twice_d)
    ∙ twice_d-mod (a * b)
    ∙ ap (λ n. n % prime) (moved a b curve_d)
    ∙ sym (mul-mod_first (a * 2 * curve_d) b prime)
    ∙ ap (λ n. (n * b) % prime) (sym (mul-mod_first (a * 2) curve_d prime))

sum-twice : (z w : ℕ) → z * (w + w) ≡ z * 2 * w
sum-twice z w = omega arith

-- D of the addition: Z2 may be doubled before
pub field_mul-sum : (z w : ℕ) → field_mul z (field_add w w) ≡ field_mul (field_mul z 2) w
unfolding field_mul field_add
field_mul-sum z w =
    mul-mod_second z (w + w) prime ∙ ap (λ n. n % prime) (sum-twice z w) ∙ sym (mul-mod_first (z * 2) w prime)

-- the highest bit of a number below p is free for the sign
pub number_of-signed : (y0 y1 y2 y3 x0 x1 x2 x3 y x : ℕ)
    → number_of y0 y1 y2 y3 ≡ y → y < prime → number_of x0 x1 x2 x3 ≡ x
    → number_of y0 y1 y2 (y3 % 2 ^ 63 + x0 % 2 * 2 ^ 63) ≡ y + 2 ^ 255 * (x % 2)
number_of-signed y0 y1 y2 y3 x0 x1 x2 x3 y x y_is below x_is = omega arith
