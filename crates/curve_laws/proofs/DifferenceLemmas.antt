-- Sums, differences and products modulo m of numbers that are known as differences of two naturals.
use Rattle.std.proofs.Common.{◌≡◌, ◌<◌, ◌≤◌, ◌-◌, ℕ, ◌+◌, ◌*◌, ◌%◌, arith, ap, sym, refl, ◌∙◌}
use Rattle.std.proofs.Math.Nat.{add-mod, add-mod_right, mod-mod}
use Rattle.std.proofs.lemmas.Nat.{mul-mod, mod_below}

-- ---- congruences

-- a and b are congruent modulo m
pub record IsCongruent (m a b : ℕ) : Type 0 where
  pub is : a % m ≡ b % m

pub same : (m : ℕ) {a b : ℕ} → a ≡ b → IsCongruent m a b
same m is = record { is = ap (λ k. k % m) is }

pub equal : (m a b : ℕ) → a ≡ b → IsCongruent m a b
equal m a b is = same m is

pub back : {m a b : ℕ} → IsCongruent m a b → IsCongruent m b a
back first = record { is = sym first.is }

pub then : {m a b c : ℕ} → IsCongruent m a b → IsCongruent m b c → IsCongruent m a c
then first second = record { is = first.is ∙ second.is }

pub sums : {m a b c d : ℕ} → IsCongruent m a b → IsCongruent m c d → IsCongruent m (a + c) (b + d)
sums {m} {a} {b} {c} {d} first second =
    record { is = add-mod a c m ∙ ap (λ k. (k + c % m) % m) first.is ∙ ap (λ k. (b % m + k) % m) second.is ∙ sym (add-mod b d m) }

pub products : {m a b c d : ℕ} → IsCongruent m a b → IsCongruent m c d
    → IsCongruent m (a * c) (b * d)
products {m} {a} {b} {c} {d} first second =
    record { is = mul-mod a c m ∙ ap (λ k. (k * (c % m)) % m) first.is ∙ ap (λ k. (b % m * k) % m) second.is ∙ sym (mul-mod b d m) }

remainder : (m a : ℕ) → IsCongruent m (a % m) a
remainder m a = record { is = mod-mod a m }

added : (m a b : ℕ) → a ≡ b + m → IsCongruent m a b
added m a b is = record { is = ap (λ k. k % m) is ∙ add-mod_right b m }

taken-away : (m a c : ℕ) → 0 < m → IsCongruent m (a + c + (m - c % m)) a
taken-away m a c some =
    let below : c % m < m = mod_below c m some in
    then (sums (sums (equal m a a refl) (back (remainder m c))) (equal m (m - c % m) (m - c % m) refl)) (added m _ a (omega arith))

-- what stands on both sides goes
pub without : {m a b : ℕ} → (c : ℕ) → 0 < m → IsCongruent m (a + c) (b + c) → IsCongruent m a b
without {m} {a} {b} c some is =
    then (back (taken-away m a c some)) (then (sums is (equal m (m - c % m) (m - c % m) refl)) (taken-away m b c some))

-- ---- numbers as differences

-- v is plus - minus, modulo m
pub record IsDifference (m v plus minus : ℕ) : Type 0 where
  pub is : IsCongruent m (v + minus) plus

pub itself : (m x : ℕ) → IsDifference m x x 0
itself m x = record { is = same m (omega arith) }

-- the same difference in another form
pub told : {m v a b c d : ℕ} → 0 < m → IsDifference m v a b → a + d ≡ c + b → IsDifference m v c d
told {m} {v} {a} {b} {c} {d} some v_is is_told =
    record { is = without b some (then (equal m (v + d + b) (v + b + d) (omega arith)) (then (sums v_is.is (equal m d d refl)) (same m is_told))) }

pub sum : {m x y z a b c d : ℕ} → z ≡ (x + y) % m → IsDifference m x a b → IsDifference m y c d
    → IsDifference m z (a + c) (b + d)
sum {m} {x} {y} {z} {a} {b} {c} {d} z_is x_is y_is =
    record {
      is =
          then (sums (then (same m z_is) (remainder m (x + y))) (equal m (b + d) (b + d) refl))
          (then (equal m (x + y + (b + d)) ((x + b) + (y + d)) (omega arith))
          (sums x_is.is y_is.is));
    }

pub difference : {m x y z a b c d : ℕ} → y ≤ m → z ≡ (x + (m - y)) % m → IsDifference m x a b
    → IsDifference m y c d → IsDifference m z (a + d) (b + c)
difference {m} {x} {y} {z} {a} {b} {c} {d} fits z_is x_is y_is =
    record {
      is =
          then (sums (then (same m z_is) (remainder m (x + (m - y)))) (sums (equal m b b refl) (back y_is.is)))
          (then (added m _ (x + b + d) (omega arith))
          (sums x_is.is (equal m d d refl)));
    }

pub product : {m x y z a b c d : ℕ} → z ≡ (x * y) % m → IsDifference m x a b → IsDifference m y c d
    → IsDifference m z (a * c + b * d) (a * d + b * c)
product {m} {x} {y} {z} {a} {b} {c} {d} z_is x_is y_is =
    record {
      is =
          then (sums (then (same m z_is) (remainder m (x * y))) (sums (products (back x_is.is) (equal m d d refl)) (products (equal m b b refl) (back y_is.is))))
          (then (equal m (x * y + ((x + b) * d + b * (y + d))) ((x + b) * (y + d) + b * d) (omega arith))
          (sums (products x_is.is y_is.is) (equal m (b * d) (b * d) refl)));
    }

-- what is a remainder fits
pub fits : {m v : ℕ} → 0 < m → (w : ℕ) → v ≡ w % m → v ≤ m
fits {m} {v} some w v_is = let below : w % m < m = mod_below w m some in omega arith

-- the same number, where a congruence of u and w is taken f times and, with its sides changed, g times
pub shifted : {m v a b u w : ℕ} → (f g : ℕ) → IsCongruent m u w → IsDifference m v a b
    → IsDifference m v (a + (f * u + g * w)) (b + (f * w + g * u))
shifted {m} {v} {a} {b} {u} {w} f g u_is v_is =
    let both : IsCongruent m (f * w + g * u) (f * u + g * w) =
    sums (products (equal m f f refl) (back u_is)) (products (equal m g g refl) u_is) in
    record { is = then (equal m (v + (b + (f * w + g * u))) ((v + b) + (f * w + g * u)) (omega arith)) (sums v_is.is both) }

-- two numbers with one difference are congruent
pub alike : {m v w a b : ℕ} → 0 < m → IsDifference m v a b → IsDifference m w a b
    → IsCongruent m v w
alike {b = b} some v_is w_is = without b some (then v_is.is (back w_is.is))

-- a sum and a product that no step took the remainder of
pub sum' : {m x y a b c d : ℕ} → IsDifference m x a b → IsDifference m y c d
    → IsDifference m (x + y) (a + c) (b + d)
sum' {m} {x} {y} {a} {b} {c} {d} x_is y_is =
    record { is = then (equal m (x + y + (b + d)) ((x + b) + (y + d)) (omega arith)) (sums x_is.is y_is.is) }

pub product' : {m x y a b c d : ℕ} → IsDifference m x a b → IsDifference m y c d
    → IsDifference m (x * y) (a * c + b * d) (a * d + b * c)
product' {m} {x} {y} {a} {b} {c} {d} x_is y_is =
    record {
      is =
          then (sums (equal m (x * y) (x * y) refl) (sums (products (back x_is.is) (equal m d d refl)) (products (equal m b b refl) (back y_is.is))))
          (then (equal m (x * y + ((x + b) * d + b * (y + d))) ((x + b) * (y + d) + b * d) (omega arith))
          (sums (products x_is.is y_is.is) (equal m (b * d) (b * d) refl)));
    }
