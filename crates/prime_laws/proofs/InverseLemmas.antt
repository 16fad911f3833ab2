-- Inverses modulo a prime, by Euclid's algorithm; and what is no prime.
use Rattle.std.proofs.Common.{◌≡◌, ◌<◌, ◌≤◌, ◌-◌, ◌/◌, ℕ, zero, suc, ◌+◌, ◌*◌, ◌%◌, arith, ap, refl, sym, inl, inr, ◌∙◌}
use Rattle.std.proofs.Math.Nat.{add-mul-mod_self_right, div-add-mod', div-le_self, dvd-mul_left, dvd_of_mod-eq-zero, mod-eq_of_lt, mod-lt}
use Rattle.std.proofs.lemmas.Bool.{cases_lt}
use Rattle.prime_laws.specs.Primes.{HasInverse, IsPrime}

-- where h x + z is n, and w is the inverse of z, (n - h) w is that of x
inverse-products : (x k w h z n : ℕ) → h * x + z ≡ n → k + h ≡ n
    → x * (k * w) + w * n ≡ z * w + x * w * n
inverse-products x k w h z n is sum_is =
    let first : x * (k * w) + w * (h * x + z) ≡ z * w + x * w * (k + h) = omega arith in
    ap (λ m. x * (k * w) + w * m) (sym is) ∙ first ∙ ap (λ m. z * w + x * w * m) sum_is

inverse-by : (n x z w : ℕ) → n % x ≡ z → 0 < x → (z * w) % n ≡ 1 → (x * ((n - n / x) * w)) % n ≡ 1
inverse-by n x z w z_is some w_is =
    let parts = div-add-mod' n x in
    let fits : n / x ≤ n = div-le_self n x in
    sym (add-mul-mod_self_right (x * ((n - n / x) * w)) w n)
    ∙ ap (λ k. k % n) (inverse-products x (n - n / x) w (n / x) z n (omega (arith, parts, z_is)) (omega arith))
    ∙ add-mul-mod_self_right (z * w) (x * w) n ∙ w_is

rest-some : (n x : ℕ) → IsPrime n → 1 < x → x < n → (z : ℕ) → n % x ≡ z → 0 < z
rest-some n x prime more below zero is =
    elim (prime.divisors x (dvd_of_mod-eq-zero x is)) [ inl one ↦ absurd (omega arith) | inr same ↦ absurd (omega arith) ]
rest-some n x prime more below (suc z) is = omega arith

inverse-below : (n : ℕ) → IsPrime n → (bound x : ℕ) → x < bound → 0 < x → x < n → HasInverse n x
inverse-below n prime zero x in_bound some below = absurd (omega arith)
inverse-below n prime (suc bound) x in_bound some below =
    elim (cases_lt 1 x) [
      | inl more ↦ let z_below : n % x < x = mod-lt n some in
          let z = inverse-below n prime bound (n % x) (omega arith) (rest-some n x prime more below (n % x) refl) (omega arith) in
          record { inverse = (n - n / x) * z.inverse; is = inverse-by n x (n % x) z.inverse refl some z.is }
      | inr least ↦ let one : x * 1 ≡ 1 = omega arith in record { inverse = 1; is = ap (λ k. k % n) one ∙ mod-eq_of_lt prime.more }
    ]

pub inverse-of : (n x : ℕ) → IsPrime n → 0 < x → x < n → HasInverse n x
inverse-of n x prime some below = inverse-below n prime (suc x) x (omega arith) some below

-- ---- what is no prime

pub one-is-none : IsPrime 1 → ⊥
one-is-none prime = let more = prime.more in omega arith

two-times : (a b : ℕ) → 1 < a → 1 < b → b ≡ a * b → ⊥
two-times zero b a_more b_more is = omega arith
two-times (suc zero) b a_more b_more is = omega arith
two-times (suc (suc a)) b a_more b_more is = omega arith

pub product-is-none : (a b : ℕ) → 1 < a → 1 < b → IsPrime (a * b) → ⊥
product-is-none a b a_more b_more prime =
    elim (prime.divisors b (dvd-mul_left b a)) [
      | inl one ↦ omega arith
      | inr whole ↦ two-times a b a_more b_more whole
    ]
