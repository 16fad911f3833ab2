-- Prime numbers, and inverses modulo a number.
use Rattle.std.specs.Prelude.{◌≡◌, ◌⊎◌, ◌<◌, ◌*◌, ◌%◌, ℕ}
use Rattle.std.specs.Int.{◌∣◌}

-- a prime: more than 1, and divided by nothing but 1 and itself
pub record IsPrime (n : ℕ) : Type 0 where
  pub more : 1 < n
  pub divisors : (d : ℕ) → d ∣ n → (d ≡ 1) ⊎ (d ≡ n)

-- a number whose product with x is 1 modulo n
pub record HasInverse (n x : ℕ) : Type 0 where
  pub inverse : ℕ
  pub is : (x * inverse) % n ≡ 1
