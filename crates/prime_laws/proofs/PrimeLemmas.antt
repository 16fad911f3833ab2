-- When a number is prime: by an order, or by trial division.
use Rattle.std.proofs.Common.{◌≡◌, ◌⊎◌, ◌<◌, ◌≤◌, ◌/◌, ◌&&◌, ℕ, zero, suc, ◌*◌, ◌%◌, Bool, true, List, ltb, arith, ap, refl, sym, inl, inr, subst, ◌∙◌}
use Rattle.std.specs.Int.{◌∣◌}
use Rattle.std.proofs.Math.Nat.{dvd_of_mod-eq-zero, mod-eq-zero_of_dvd, mul-div_cancel', mul-mod_left}
use Rattle.std.proofs.lemmas.Nat.{mul-le}
use Rattle.std.proofs.lemmas.Bool.{and_parts, cases_lt, cases_order, ltb-true}
use Rattle.prime_laws.specs.Primes.{IsPrime}
use Rattle.prime_laws.proofs.OrderLemmas.{AllPrimes, at-least-the-order, is-certificate, product}

-- ---- without a divisor up to the square root

abbrev HasNoSmall : ℕ → Type 0
HasNoSmall n = (r : ℕ) → r ∣ n → 1 < r → r * r ≤ n → ⊥

codivisor : (d n : ℕ) → d ∣ n → n / d ∣ n
codivisor d n h = dvd_of_mod-eq-zero (n / d) (ap (λ k. k % (n / d)) (sym (mul-div_cancel' d h)) ∙ mul-mod_left d (n / d))

-- a divisor with a codivisor, neither of which is 1
both-great : (n d e : ℕ) → 1 < n → HasNoSmall n → d ∣ n → e ∣ n → d * e ≡ n → (d ≡ 1) ⊎ (d ≡ n)
both-great n zero e more none h k is = absurd (omega (arith, is))
both-great n (suc zero) e more none h k is = inl refl
both-great n (suc (suc d)) zero more none h k is = absurd (omega (arith, is))
both-great n (suc (suc d)) (suc zero) more none h k is = inr (omega (arith, is))
both-great n (suc (suc d)) (suc (suc e)) more none h k is =
    elim (cases_lt d e) [
      | inl less ↦ absurd (none (suc (suc d)) h (omega arith) (let fits = mul-le (suc (suc d)) (suc (suc d)) (suc (suc d)) (suc (suc e)) (omega arith) (omega arith) in omega (arith, is, fits)))
      | inr less ↦ absurd (none (suc (suc e)) k (omega arith) (let fits = mul-le (suc (suc e)) (suc (suc e)) (suc (suc d)) (suc (suc e)) (omega arith) (omega arith) in omega (arith, is, fits)))
    ]

prime-from : (n : ℕ) → 1 < n → HasNoSmall n → IsPrime n
prime-from n more none =
    record { more = more; divisors = λ d h. both-great n d (n / d) more none h (codivisor d n h) (mul-div_cancel' d h) }

-- ---- by an order whose square is greater

squares : (f r n : ℕ) → f ≤ r → n < f * f → r * r ≤ n → ⊥
squares f r n fits great small = let below = mul-le f f r r fits fits in omega (arith, below)

pub prime-by-order : (n bits x : ℕ) (cs : List (ℕ × ℕ)) → AllPrimes cs
    → (ltb 1 n && ltb n (product cs * product cs)) ≡ true → is-certificate n bits x cs ≡ true → IsPrime n
prime-by-order n bits x cs primes sizes computed =
    let parts = and_parts (ltb 1 n) (ltb n (product cs * product cs)) sizes in
    let more = ltb-true 1 n parts.0 in
    prime-from n more (λ r h r_more small.
    squares (product cs) r n (at-least-the-order n r bits x cs primes more h r_more computed) (ltb-true n (product cs * product cs) parts.1) small)

-- ---- by trial division

-- n has none of the divisors 2, 3 .. count + 1
abbrev pub has-none : (n count : ℕ) → Bool
has-none n zero = true
has-none n (suc count) = ltb 0 (n % suc (suc count)) && has-none n count

has-none-says : (n count : ℕ) → has-none n count ≡ true → (r : ℕ) → 1 < r → r < suc (suc count)
    → 0 < n % r
has-none-says n zero computed r more below = absurd (omega arith)
has-none-says n (suc count) computed r more below =
    let parts = and_parts (ltb 0 (n % suc (suc count))) (has-none n count) computed in
    elim (cases_order r (suc (suc count))) [
      | inl same ↦ subst (λ k. 0 < n % k) (sym same) (ltb-true 0 (n % suc (suc count)) parts.0)
      | inr other ↦ elim other [
        | inl less ↦ has-none-says n count parts.1 r more less
        | inr greater ↦ absurd (omega arith)
      ]
    ]

too-great : (count r n : ℕ) → suc (suc count) ≤ r → n < suc (suc count) * suc (suc count)
    → r * r ≤ n → ⊥
too-great count r n fits great small = squares (suc (suc count)) r n fits great small

pub prime-by-trial : (n count : ℕ) → (ltb 1 n && ltb n (suc (suc count) * suc (suc count))) ≡ true
    → has-none n count ≡ true → IsPrime n
prime-by-trial n count sizes computed =
    let parts = and_parts (ltb 1 n) (ltb n (suc (suc count) * suc (suc count))) sizes in
    prime-from n (ltb-true 1 n parts.0) (λ r h more small.
    elim (cases_lt r (suc (suc count))) [
      | inl less ↦ let rest = has-none-says n count computed r more less in omega (arith, rest, mod-eq-zero_of_dvd r h)
      | inr fits ↦ too-great count r n fits (ltb-true n (suc (suc count) * suc (suc count)) parts.1) small
    ])
