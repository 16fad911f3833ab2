-- Fermat's theorem, by the binomial theorem: n divides each binomial coefficient of n but the first and the last.
use Rattle.std.proofs.Common.{◌≡◌, ◌<◌, ◌-◌, ◌^◌, ℕ, zero, suc, ◌+◌, ◌*◌, ◌%◌, arith, ap, refl, sym, ◌∙◌}
use Rattle.std.proofs.Math.Nat.{add-mod, mod-eq_of_lt, mul-mod_left, pow-suc, pow-zero, zero-mod}
use Rattle.std.proofs.lemmas.Nat.{mul-mod_first, mul-mod_second}
use Rattle.prime_laws.specs.Primes.{IsPrime}
use Rattle.prime_laws.proofs.InverseLemmas.{inverse-of}

-- ---- binomial coefficients, by Pascal's rule

choose : (n k : ℕ) → ℕ
choose n zero = 1
choose zero (suc k) = 0
choose (suc n) (suc k) = choose n k + choose n (suc k)

choose-past : (n k : ℕ) → n < k → choose n k ≡ 0
unfolding choose
choose-past n zero past = absurd (omega arith)
choose-past zero (suc k) past = refl
choose-past (suc n) (suc k) past = omega (arith, choose-past n k (omega arith), choose-past n (suc k) (omega arith))

choose-all : (n : ℕ) → choose n n ≡ 1
unfolding choose
choose-all zero = refl
choose-all (suc n) = omega (arith, choose-all n, choose-past n (suc n) (omega arith))

absorbed : (n j a b c d : ℕ) → suc j * a ≡ suc n * d → suc (suc j) * b ≡ suc n * c → a ≡ d + c
    → suc (suc j) * (a + b) ≡ suc (suc n) * a
absorbed n j a b c d first second pascal =
    let opened : suc (suc j) * (a + b) ≡ suc j * a + a + suc (suc j) * b = omega arith in
    let joined : suc n * d + a + suc n * c ≡ suc n * (d + c) + a = omega arith in
    let closed : suc n * a + a ≡ suc (suc n) * a = omega arith in
    opened ∙ ap (λ k. k + a + suc (suc j) * b) first ∙ ap (λ k. suc n * d + a + k) second ∙ joined
    ∙ ap (λ k. suc n * k + a) (sym pascal) ∙ closed

-- k of n, k times, is k - 1 of n - 1, n times
choose-times : (n k : ℕ) → suc k * choose (suc n) (suc k) ≡ suc n * choose n k
unfolding choose
choose-times zero zero = refl
choose-times zero (suc k) = omega arith
choose-times (suc n) zero = omega (arith, choose-times n zero)
choose-times (suc n) (suc k) =
    absorbed n k (choose (suc n) (suc k)) (choose (suc n) (suc (suc k))) (choose n (suc k)) (choose n k)
    (choose-times n k) (choose-times n (suc k)) refl

-- ---- the binomial theorem

-- the first count terms of (a + 1) ^ n
terms : (n count a : ℕ) → ℕ
terms n zero a = 0
terms n (suc count) a = terms n count a + choose n count * a ^ count

next-term : (t s u c d w a : ℕ) → t ≡ s + a * u
    → t + (c + d) * (w * a) ≡ s + d * (w * a) + a * (u + c * w)
next-term t s u c d w a is =
    let opened : s + a * u + (c + d) * (w * a) ≡ s + d * (w * a) + a * (u + c * w) = omega arith in
    ap (λ k. k + (c + d) * (w * a)) is ∙ opened

one-term : (a k : ℕ) → k ≡ 1 → 0 + 1 * k ≡ 0 + 1 * k + a * 0
one-term a k is = omega arith

terms-of-next : (n count a : ℕ)
    → terms (suc n) (suc count) a ≡ terms n (suc count) a + a * terms n count a
unfolding terms choose
terms-of-next n zero a = one-term a (a ^ 0) (pow-zero a)
terms-of-next n (suc count) a =
    ap (λ w. terms (suc n) (suc count) a + (choose n count + choose n (suc count)) * w) (pow-suc a count)
    ∙ next-term (terms (suc n) (suc count) a) (terms n (suc count) a) (terms n count a) (choose n count) (choose n (suc count)) (a ^ count) a (terms-of-next n count a)
    ∙ ap (λ w. terms n (suc count) a + choose n (suc count) * w + a * (terms n count a + choose n count * a ^ count)) (sym (pow-suc a count))

none-more : (t c w a : ℕ) → c ≡ 0 → t + c * w + a * t ≡ t * (a + 1)
none-more t zero w a is = omega arith
none-more t (suc c) w a is = absurd (omega arith)

binomial : (n a : ℕ) → (a + 1) ^ n ≡ terms n (suc n) a
unfolding terms choose
binomial zero a = pow-zero (a + 1) ∙ ap (λ k. 0 + 1 * k) (sym (pow-zero a))
binomial (suc n) a =
    pow-suc (a + 1) n ∙ ap (λ k. k * (a + 1)) (binomial n a)
    ∙ sym (none-more (terms n (suc n) a) (choose n (suc n)) (a ^ suc n) a (choose-past n (suc n) (omega arith)))
    ∙ sym (terms-of-next n (suc n) a)

-- ---- modulo a prime

-- where k c is 0 modulo n, and k has an inverse, c is 0
cancelled : (n k i c : ℕ) → (k * i) % n ≡ 1 → 1 < n → (k * c) % n ≡ 0 → c % n ≡ 0
cancelled n k i c inverse more none =
    let one : c ≡ 1 * c = omega arith in
    let turned : k * i * c ≡ i * (k * c) = omega arith in
    let nothing : i * 0 ≡ 0 = omega arith in
    ap (λ m. m % n) one ∙ ap (λ m. (m * c) % n) (sym inverse) ∙ mul-mod_first (k * i) c n ∙ ap (λ m. m % n) turned
    ∙ sym (mul-mod_second i (k * c) n) ∙ ap (λ m. (i * m) % n) none ∙ ap (λ m. m % n) nothing ∙ zero-mod n

choose-none : (n k : ℕ) → IsPrime n → 0 < k → k < n → choose n k % n ≡ 0
choose-none zero k prime some below = absurd (omega arith)
choose-none (suc n) zero prime some below = absurd (omega arith)
choose-none (suc n) (suc k) prime some below =
    let turned : suc n * choose n k ≡ choose n k * suc n = omega arith in
    let i = inverse-of (suc n) (suc k) prime some below in
    cancelled (suc n) (suc k) i.inverse (choose (suc n) (suc k)) i.is prime.more
    (ap (λ m. m % suc n) (choose-times n k ∙ turned) ∙ mul-mod_left (choose n k) (suc n))

first-alone : (a k : ℕ) → k ≡ 1 → 0 + 1 * k ≡ 1
first-alone a k is = omega arith

-- of the terms up to the last but one only the first counts
first-terms : (n count a : ℕ) → IsPrime n → count < n → terms n (suc count) a % n ≡ 1
unfolding terms choose
first-terms n zero a prime below = ap (λ k. k % n) (first-alone a (a ^ 0) (pow-zero a)) ∙ mod-eq_of_lt prime.more
first-terms n (suc count) a prime below =
    let nothing : 0 * a ^ suc count ≡ 0 = omega arith in
    add-mod (terms n (suc count) a) (choose n (suc count) * a ^ suc count) n
    ∙ ap (λ k. (k + choose n (suc count) * a ^ suc count % n) % n) (first-terms n count a prime (omega arith))
    ∙ ap (λ k. (1 + k) % n) (sym (mul-mod_first (choose n (suc count)) (a ^ suc count) n) ∙ ap (λ k. (k * a ^ suc count) % n) (choose-none n (suc count) prime (omega arith) below) ∙ ap (λ k. k % n) nothing ∙ zero-mod n)
    ∙ mod-eq_of_lt prime.more

last-alone : (w c : ℕ) → c ≡ 1 → c * w ≡ w
last-alone w c is = let one : 1 * w ≡ w = omega arith in ap (λ k. k * w) is ∙ one

-- (a + 1) ^ n is 1 + a ^ n
power-of-next : (n a : ℕ) → IsPrime n → (a + 1) ^ n % n ≡ (1 + a ^ n) % n
unfolding terms
power-of-next zero a prime = absurd (let more = prime.more in omega arith)
power-of-next (suc n) a prime =
    ap (λ k. k % suc n) (binomial (suc n) a)
    ∙ add-mod (terms (suc n) (suc n) a) (choose (suc n) (suc n) * a ^ suc n) (suc n)
    ∙ ap (λ k. (k + choose (suc n) (suc n) * a ^ suc n % suc n) % suc n) (first-terms (suc n) n a prime (omega arith))
    ∙ ap (λ k. (1 + k % suc n) % suc n) (last-alone (a ^ suc n) (choose (suc n) (suc n)) (choose-all (suc n)))
    ∙ ap (λ k. (k + a ^ suc n % suc n) % suc n) (sym (mod-eq_of_lt prime.more))
    ∙ sym (add-mod 1 (a ^ suc n) (suc n))

power-of-zero : (n : ℕ) → 0 < n → 0 ^ n ≡ 0
power-of-zero zero some = absurd (omega arith)
power-of-zero (suc n) some = let none : 0 ^ n * 0 ≡ 0 = omega arith in pow-suc 0 n ∙ none

pub fermat : (n x : ℕ) → IsPrime n → x ^ n % n ≡ x % n
fermat n zero prime = ap (λ k. k % n) (power-of-zero n (let more = prime.more in omega arith))
fermat n (suc x) prime =
    let next : suc x ≡ x + 1 = omega arith in
    let back : 1 + x ≡ suc x = omega arith in
    ap (λ k. k ^ n % n) next ∙ power-of-next n x prime ∙ add-mod 1 (x ^ n) n ∙ ap (λ k. (1 % n + k) % n) (fermat n x prime)
    ∙ sym (add-mod 1 x n) ∙ ap (λ k. k % n) back

-- ---- the power n - 2 of x is its inverse

one-times : (k : ℕ) → k ≡ k * 1
one-times k = omega arith

inverse-power : (n x m : ℕ) → n ≡ suc (suc m) → IsPrime n → 0 < x → x < n → (x * x ^ m) % n ≡ 1
inverse-power n x m size prime some below =
    let i = inverse-of n x prime some below in
    let moved : x * x ^ m * (x * i.inverse) ≡ x ^ m * x * x * i.inverse = omega arith in
    let whole : x ^ m * x * x ≡ x ^ n =
    ap (λ k. k * x) (sym (pow-suc x m)) ∙ sym (pow-suc x (suc m)) ∙ ap (λ k. x ^ k) (sym size) in
    ap (λ k. k % n) (one-times (x * x ^ m)) ∙ ap (λ k. (x * x ^ m * k) % n) (sym i.is)
    ∙ mul-mod_second (x * x ^ m) (x * i.inverse) n ∙ ap (λ k. k % n) (moved ∙ ap (λ k. k * i.inverse) whole)
    ∙ sym (mul-mod_first (x ^ n) i.inverse n) ∙ ap (λ k. (k * i.inverse) % n) (fermat n x prime)
    ∙ mul-mod_first x i.inverse n ∙ i.is

pub power-inverts : (n x : ℕ) → IsPrime n → 0 < x → x < n → (x * x ^ (n - 2)) % n ≡ 1
power-inverts n x prime some below =
    let more = prime.more in inverse-power n x (n - 2) (omega arith) prime some below
