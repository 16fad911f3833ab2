-- A number of known order modulo each divisor of n: so a divisor that isn't 1 is at least the order.
use Rattle.std.proofs.Common.{◌≡◌, ◌≢◌, ◌<◌, ◌≤◌, ◌-◌, ◌^◌, ◌/◌, ◌&&◌, ℕ, zero, suc, ◌+◌, ◌*◌, ◌%◌, Bool, true, List, [], ◌∷◌, eqb, arith, ap, refl, sym, subst, inl, inr, ◌∙◌}
use Rattle.std.specs.Bool.{⊤}
use Rattle.std.specs.Int.{◌∣◌}
use Rattle.std.proofs.Math.Nat.{add-mod, div-add-mod', mod-eq_of_lt, mod-lt, zero-mod}
use Rattle.std.proofs.Math.Nat.{div-mul_cancel, dvd_of_mod-eq-zero, le_of_dvd, lt_trans, mod-mod_of_dvd, mod-eq-zero_of_dvd, mul-dvd-mul_right, one-dvd}
use Rattle.std.proofs.lemmas.Bool.{and_parts, cases_order, eqb-true}
use Rattle.std.proofs.lemmas.Nat.{mul-mod_first, mul-mod_second, pow-add, pow-mod}
use Rattle.prime_laws.specs.Primes.{IsPrime}
use Rattle.prime_laws.proofs.InverseLemmas.{inverse-of}
use Rattle.prime_laws.proofs.PigeonholeLemmas.{pigeonhole}
use Rattle.prime_laws.proofs.PowerLemmas.{first-power, power, power-is, power-of-power, power-of-unity}

-- ---- what is computed: primes, whose product is the order, and an inverse for each

-- the product of the primes
abbrev pub product : List (ℕ × ℕ) → ℕ
product [] = 1
product (c ∷ cs) = c.0 * product cs

-- x to the product is 1 modulo n, and x to the product without a prime, less 1, has the inverse that stands there
abbrev pub is-certificate : (n bits x : ℕ) → List (ℕ × ℕ) → Bool
is-certificate n bits x [] = eqb (x % n) 1
is-certificate n bits x (c ∷ cs) =
    eqb (((power n bits x (product cs) + (n - 1)) * c.1) % n) 1 && is-certificate n bits (power n bits x c.0) cs

-- ---- what it says modulo a divisor r

abbrev pub AllPrimes : List (ℕ × ℕ) → Type 0
AllPrimes [] = ⊤
AllPrimes (c ∷ cs) = IsPrime c.0 × AllPrimes cs

-- x to the product is 1, and to the product without a prime it isn't
abbrev pub HasOrder : (r x : ℕ) → List (ℕ × ℕ) → Type 0
HasOrder r x [] = x % r ≡ 1
HasOrder r x (c ∷ cs) = (x ^ product cs % r ≢ 1) × HasOrder r (x ^ c.0) cs

pub power-is-one : (r x : ℕ) (cs : List (ℕ × ℕ)) → HasOrder r x cs → x ^ product cs % r ≡ 1
power-is-one r x [] order = ap (λ k. k % r) (first-power x) ∙ order
power-is-one r x (c ∷ cs) order =
    ap (λ k. k % r) (sym (power-of-power x c.0 (product cs))) ∙ power-is-one r (x ^ c.0) cs order.1

-- k is a multiple of the prime q, or i k is 1 modulo q for an i
data Multiples (q k : ℕ) : Type 0 where
  multiple : q ∣ k → Multiples q k
  unit : (i m : ℕ) → k * i ≡ 1 + m * q → Multiples q k

split-up : (m q n : ℕ) → m * q + 1 ≡ n → n ≡ 1 + m * q
split-up m q n is = omega arith

multiples-by : (q k : ℕ) → IsPrime q → (rest : ℕ) → k % q ≡ rest → Multiples q k
multiples-by q k prime zero is = multiple (dvd_of_mod-eq-zero q is)
multiples-by q k prime (suc rest) is =
    let some : 0 < q = lt_trans (omega arith) prime.more in
    let i = inverse-of q (suc rest) prime (omega arith) (let below : k % q < q = mod-lt k some in omega arith) in
    unit i.inverse (k * i.inverse / q) (split-up (k * i.inverse / q) q (k * i.inverse)
    (ap (λ n. k * i.inverse / q * q + n) (sym (sym (mul-mod_first k i.inverse q) ∙ ap (λ n. n * i.inverse % q) is ∙ i.is)) ∙ div-add-mod' (k * i.inverse) q))

regrouped : (f k i m q : ℕ) → k * i ≡ 1 + m * q → k * f * i ≡ f + q * f * m
regrouped f k i m q is =
    let moved : k * f * i ≡ f * (k * i) = omega arith in
    let opened : f * (1 + m * q) ≡ f + q * f * m = omega arith in
    moved ∙ ap (λ n. f * n) is ∙ opened

-- where x to the k f and to the q f is 1, and i k is 1 modulo q, x to the f is 1
brought-down : (r x f k i m q : ℕ) → 1 < r → k * i ≡ 1 + m * q → x ^ (k * f) % r ≡ 1
    → x ^ (q * f) % r ≡ 1 → x ^ f % r ≡ 1
brought-down r x f k i m q more inverse is whole =
    ap (λ n. n % r) (sym (let one : x ^ f * 1 ≡ x ^ f = omega arith in one))
    ∙ ap (λ n. (x ^ f * n) % r) (sym (power-of-unity r (x ^ (q * f)) m more whole))
    ∙ mul-mod_second (x ^ f) ((x ^ (q * f)) ^ m) r
    ∙ ap (λ n. (x ^ f * n) % r) (power-of-power x (q * f) m)
    ∙ ap (λ n. n % r) (sym (pow-add x f (q * f * m)))
    ∙ ap (λ n. x ^ n % r) (sym (regrouped f k i m q inverse))
    ∙ ap (λ n. n % r) (sym (power-of-power x (k * f) i))
    ∙ power-of-unity r (x ^ (k * f)) i more is

-- an exponent of which x to it is 1 is a multiple of the order
pub order-divides : (r : ℕ) → 1 < r → (cs : List (ℕ × ℕ)) → AllPrimes cs → (x : ℕ) → HasOrder r x cs
    → (d : ℕ) → x ^ d % r ≡ 1 → product cs ∣ d
order-divides r more [] primes x order d is = one-dvd d
order-divides r more (c ∷ cs) primes x order d is =
    let turned : d * c.0 ≡ c.0 * d = omega arith in
    let rest : product cs ∣ d =
    order-divides r more cs primes.1 (x ^ c.0) order.1 d (ap (λ n. n % r) (power-of-power x c.0 d ∙ ap (λ n. x ^ n) (sym turned) ∙ sym (power-of-power x d c.0)) ∙ power-of-unity r (x ^ d) c.0 more is) in
    let k = d / product cs in
    let whole : k * product cs ≡ d = div-mul_cancel (product cs) rest in
    elim (multiples-by c.0 k primes.0 (k % c.0) refl) [
      | multiple h ↦ subst (λ n. c.0 * product cs ∣ n) whole (mul-dvd-mul_right c.0 h (product cs))
      | unit i m h ↦ absurd (order.0 (brought-down r x (product cs) k i m c.0 more h (ap (λ n. x ^ n % r) whole ∙ is) (power-is-one r x (c ∷ cs) order)))
    ]

-- ---- as many remainders as the order

-- where x to the i and to the j are one modulo r, x to the j - i is 1
moved-down : (r x f i j : ℕ) → i ≤ f → i < j → x ^ f % r ≡ 1 → x ^ i % r ≡ x ^ j % r
    → x ^ (j - i) % r ≡ 1
moved-down r x f i j fits less is same =
    let one : x ^ (j - i) ≡ 1 * x ^ (j - i) = omega arith in
    let exponents : f + (j - i) ≡ (f - i) + j = omega arith in
    let back : (f - i) + i ≡ f = omega arith in
    ap (λ n. n % r) one ∙ ap (λ n. (n * x ^ (j - i)) % r) (sym is) ∙ mul-mod_first (x ^ f) (x ^ (j - i)) r
    ∙ ap (λ n. n % r) (sym (pow-add x f (j - i)) ∙ ap (λ n. x ^ n) exponents ∙ pow-add x (f - i) j)
    ∙ sym (mul-mod_second (x ^ (f - i)) (x ^ j) r) ∙ ap (λ n. (x ^ (f - i) * n) % r) (sym same)
    ∙ mul-mod_second (x ^ (f - i)) (x ^ i) r ∙ ap (λ n. n % r) (sym (pow-add x (f - i) i) ∙ ap (λ n. x ^ n) back) ∙ is

abbrev IsOrder : (r x f : ℕ) → Type 0
IsOrder r x f = (d : ℕ) → x ^ d % r ≡ 1 → f ∣ d

never-below : (r x f i j : ℕ) → IsOrder r x f → x ^ f % r ≡ 1 → i < j → j < f
    → x ^ i % r ≡ x ^ j % r → ⊥
never-below r x f i j order is less below same =
    let fits : f ≤ j - i = le_of_dvd (omega arith) (order (j - i) (moved-down r x f i j (omega arith) less is same)) in
    omega arith

differ : (r x f i j : ℕ) → IsOrder r x f → x ^ f % r ≡ 1 → i < f → j < f → x ^ i % r ≡ x ^ j % r
    → i ≡ j
differ r x f i j order is i_below j_below same =
    elim (cases_order i j) [
      | inl equal ↦ equal
      | inr other ↦ elim other [
        | inl less ↦ absurd (never-below r x f i j order is less j_below same)
        | inr less ↦ absurd (never-below r x f j i order is less i_below (sym same))
      ]
    ]

order-fits : (r x f : ℕ) → 0 < r → IsOrder r x f → x ^ f % r ≡ 1 → f ≤ r
order-fits r x f some order is =
    pigeonhole f r (λ i. x ^ i % r) (λ i below. mod-lt (x ^ i) some) (λ i j. differ r x f i j order is)

-- ---- what was computed modulo n says it modulo its divisors

none-times : (c : ℕ) → 0 * c ≡ 0
none-times c = omega arith

both : (k : ℕ) → k ≡ 0 → k ≡ 1 → ⊥
both k none one = omega arith

-- n divides p + (n - 1) where p is 1 modulo r: so no multiple is 1
none-inverse : (n r p c : ℕ) → 0 < n → r ∣ n → 1 < r → p % r ≡ 1 → ((p + (n - 1)) * c) % n ≡ 1 → ⊥
none-inverse n r p c some h more is computed =
    let whole : 1 + (n - 1) ≡ n = omega arith in
    let none : (p + (n - 1)) % r ≡ 0 =
    add-mod p (n - 1) r ∙ ap (λ k. (k + (n - 1) % r) % r) is ∙ ap (λ k. (k + (n - 1) % r) % r) (sym (mod-eq_of_lt more))
    ∙ sym (add-mod 1 (n - 1) r) ∙ ap (λ k. k % r) whole ∙ mod-eq-zero_of_dvd r h in
    both (((p + (n - 1)) * c) % r)
    (sym (mul-mod_first (p + (n - 1)) c r) ∙ ap (λ k. (k * c) % r) none ∙ ap (λ k. k % r) (none-times c) ∙ zero-mod r)
    (sym (mod-mod_of_dvd r ((p + (n - 1)) * c) h) ∙ ap (λ k. k % r) computed ∙ mod-eq_of_lt more)

-- what power computes is the power modulo r
power-modulo : (n r bits x y e : ℕ) → r ∣ n → x % r ≡ y % r → power n bits x e % r ≡ y ^ e % r
power-modulo n r bits x y e h is =
    ap (λ k. k % r) (power-is n bits x e) ∙ mod-mod_of_dvd r (x ^ e) h ∙ sym (pow-mod x e r) ∙ ap (λ k. k ^ e % r) is ∙ pow-mod y e r

certifies : (n r bits : ℕ) → 0 < n → r ∣ n → 1 < r → (cs : List (ℕ × ℕ)) (x y : ℕ) → x % r ≡ y % r
    → is-certificate n bits x cs ≡ true → HasOrder r y cs
certifies n r bits some h more [] x y is computed =
    sym is ∙ sym (mod-mod_of_dvd r x h) ∙ ap (λ k. k % r) (eqb-true (x % n) 1 computed) ∙ mod-eq_of_lt more
certifies n r bits some h more (c ∷ cs) x y is computed =
    let first = power n bits x (product cs) in
    let parts = and_parts (eqb (((first + (n - 1)) * c.1) % n) 1) (is-certificate n bits (power n bits x c.0) cs) computed in (
      λ one. absurd (none-inverse n r first c.1 some h more (power-modulo n r bits x y (product cs) h is ∙ one) (eqb-true _ 1 parts.0)),
      certifies n r bits some h more cs (power n bits x c.0) (y ^ c.0) (power-modulo n r bits x y c.0 h is) parts.1,
    )

pub at-least-the-order : (n r bits x : ℕ) (cs : List (ℕ × ℕ)) → AllPrimes cs → 1 < n → r ∣ n → 1 < r
    → is-certificate n bits x cs ≡ true → product cs ≤ r
at-least-the-order n r bits x cs primes n_more h more computed =
    let order = certifies n r bits (omega arith) h more cs x x refl computed in
    order-fits r x (product cs) (omega arith) (order-divides r more cs primes x order) (power-is-one r x cs order)
