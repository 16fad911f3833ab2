-- That x ^ 3 - 3 x + b has no root modulo a prime m: x ^ m - x, which is 0 of each x, is computed modulo that polynomial,
-- and has an inverse there.
use Rattle.std.proofs.Common.{◌≡◌, ◌<◌, ◌-◌, ◌/◌, ◌^◌, ℕ, zero, suc, ◌+◌, ◌*◌, ◌%◌, arith, ap, refl, sym, ◌∙◌}
use Rattle.std.proofs.Math.Nat.{add-mod_right, mod-eq_of_lt, mod-mod, mul-mod_left, pow-succ', pow-zero, zero-mod}
use Rattle.prime_laws.specs.Primes.{IsPrime}
use Rattle.prime_laws.proofs.FermatLemmas.{fermat}
use Rattle.prime_laws.proofs.PowerLemmas.{squares-and-rest}
use Rattle.curve_laws.proofs.DifferenceLemmas.{IsCongruent, back, equal, products, sums, then}

-- a polynomial c0 + c1 x + c2 x ^ 2
pub record Quadratic : Type 0 where
  pub c0 : ℕ
  pub c1 : ℕ
  pub c2 : ℕ

abbrev pub value : (x : ℕ) → Quadratic → ℕ
value x f = f.c0 + f.c1 * x + f.c2 * (x * x)

-- the product, where x ^ 3 is 3 x + c
abbrev pub times : (m c : ℕ) → Quadratic → Quadratic → Quadratic
times m c f g =
    record {
      c0 = (f.c0 * g.c0 + c * (f.c1 * g.c2 + f.c2 * g.c1)) % m;
      c1 = (f.c0 * g.c1 + f.c1 * g.c0 + 3 * (f.c1 * g.c2 + f.c2 * g.c1) + c * (f.c2 * g.c2)) % m;
      c2 = (f.c0 * g.c2 + f.c1 * g.c1 + f.c2 * g.c0 + 3 * (f.c2 * g.c2)) % m;
    }

abbrev pub one : Quadratic
one = record { c0 = 1; c1 = 0; c2 = 0 }

abbrev pub the-x : Quadratic
the-x = record { c0 = 0; c1 = 1; c2 = 0 }

-- a polynomial less x
abbrev pub less-x : (m : ℕ) → Quadratic → Quadratic
less-x m f = record { c0 = f.c0; c1 = f.c1 + (m - 1); c2 = f.c2 }

abbrev pub plain-power : (m c : ℕ) → Quadratic → ℕ → Quadratic
plain-power m c f zero = one
plain-power m c f (suc e) = times m c f (plain-power m c f e)

-- the power e, where e is below 2 ^ bits; a greater e leaves a greater power at the end
abbrev pub power-by-squares : (m c bits : ℕ) → Quadratic → ℕ → Quadratic
power-by-squares m c zero f e = plain-power m c f e
power-by-squares m c (suc bits) f e =
    times m c (power-by-squares m c bits (times m c f f) (e / 2)) (plain-power m c f (e % 2))

-- ---- their values where x ^ 3 is 3 x + c

opened : (x a0 a1 a2 b0 b1 b2 : ℕ)
    → (a0 + a1 * x + a2 * (x * x)) * (b0 + b1 * x + b2 * (x * x)) ≡ a0 * b0 + (a0 * b1 + a1 * b0) * x + (a0 * b2 + a1 * b1 + a2 * b0) * (x * x) + (a1 * b2 + a2 * b1) * (x * x * x) + a2 * b2 * x * (x * x * x)
opened x a0 a1 a2 b0 b1 b2 = omega arith

closed : (x c k0 k1 k2 k3 k4 : ℕ)
    → k0 + k1 * x + k2 * (x * x) + k3 * (3 * x + c) + k4 * x * (3 * x + c) ≡ (k0 + c * k3) + (k1 + 3 * k3 + c * k4) * x + (k2 + 3 * k4) * (x * x)
closed x c k0 k1 k2 k3 k4 = omega arith

itself : (m k : ℕ) → IsCongruent m k k
itself m k = equal m k k refl

remainder : (m k : ℕ) → IsCongruent m (k % m) k
remainder m k = record { is = mod-mod k m }

value-of-times : (m c x : ℕ) (f g : Quadratic) → IsCongruent m (x * x * x) (3 * x + c)
    → IsCongruent m (value x (times m c f g)) (value x f * value x g)
value-of-times m c x f g cube =
    let k0 = f.c0 * g.c0 in
    let k1 = f.c0 * g.c1 + f.c1 * g.c0 in
    let k2 = f.c0 * g.c2 + f.c1 * g.c1 + f.c2 * g.c0 in
    let k3 = f.c1 * g.c2 + f.c2 * g.c1 in
    let k4 = f.c2 * g.c2 in
    back (then (equal m (value x f * value x g) (k0 + k1 * x + k2 * (x * x) + k3 * (x * x * x) + k4 * x * (x * x * x)) (opened x f.c0 f.c1 f.c2 g.c0 g.c1 g.c2))
    (then (sums (sums (itself m (k0 + k1 * x + k2 * (x * x))) (products (itself m k3) cube)) (products (itself m (k4 * x)) cube))
    (then (equal m (k0 + k1 * x + k2 * (x * x) + k3 * (3 * x + c) + k4 * x * (3 * x + c)) ((k0 + c * k3) + (k1 + 3 * k3 + c * k4) * x + (k2 + 3 * k4) * (x * x)) (closed x c k0 k1 k2 k3 k4))
    (back (sums (sums (remainder m (k0 + c * k3)) (products (remainder m (k1 + 3 * k3 + c * k4)) (itself m x))) (products (remainder m (k2 + 3 * k4)) (itself m (x * x))))))))

one-is : (x : ℕ) → 1 + 0 * x + 0 * (x * x) ≡ 1
one-is x = omega arith

x-is : (x : ℕ) → 0 + 1 * x + 0 * (x * x) ≡ x
x-is x = omega arith

value-of-plain : (m c x v : ℕ) (f : Quadratic) (e : ℕ) → IsCongruent m (x * x * x) (3 * x + c)
    → IsCongruent m (value x f) v → IsCongruent m (value x (plain-power m c f e)) (v ^ e)
value-of-plain m c x v f zero cube is = equal m (value x one) (v ^ 0) (one-is x ∙ sym (pow-zero v))
value-of-plain m c x v f (suc e) cube is =
    then (value-of-times m c x f (plain-power m c f e) cube)
    (then (products is (value-of-plain m c x v f e cube is)) (equal m (v * v ^ e) (v ^ suc e) (sym (pow-succ' v e))))

value-of-power : (m c bits x v : ℕ) (f : Quadratic) (e : ℕ) → IsCongruent m (x * x * x) (3 * x + c)
    → IsCongruent m (value x f) v → IsCongruent m (value x (power-by-squares m c bits f e)) (v ^ e)
value-of-power m c zero x v f e cube is = value-of-plain m c x v f e cube is
value-of-power m c (suc bits) x v f e cube is =
    let square : IsCongruent m (value x (times m c f f)) (v * v) = then (value-of-times m c x f f cube) (products is is) in
    then (value-of-times m c x (power-by-squares m c bits (times m c f f) (e / 2)) (plain-power m c f (e % 2)) cube)
    (then (products (value-of-power m c bits x (v * v) (times m c f f) (e / 2) cube square) (value-of-plain m c x v f (e % 2) cube is))
    (equal m ((v * v) ^ (e / 2) * v ^ (e % 2)) (v ^ e) (squares-and-rest v e)))

-- ---- no root

less-is : (x c0 c1 c2 m : ℕ) → c0 + (c1 + m) * x + c2 * (x * x) ≡ c0 + c1 * x + c2 * (x * x) + m * x
less-is x c0 c1 c2 m = omega arith

all-x : (x m j : ℕ) → j + 1 ≡ m → x + j * x ≡ x * m
all-x x m j is = let first : x + j * x ≡ x * (j + 1) = omega arith in first ∙ ap (λ k. x * k) is

-- x ^ m - x is 0
value-of-difference : (m c bits x : ℕ) → IsPrime m → IsCongruent m (x * x * x) (3 * x + c)
    → IsCongruent m (value x (less-x m (power-by-squares m c bits the-x m))) 0
value-of-difference m c bits x prime cube =
    let f = power-by-squares m c bits the-x m in
    let some : 0 < m = (let more = prime.more in omega arith) in
    let power : IsCongruent m (value x f) x =
    then (value-of-power m c bits x x the-x m cube (equal m (value x the-x) x (x-is x))) (record { is = fermat m x prime }) in
    then (equal m (value x (less-x m f)) (value x f + (m - 1) * x) (less-is x f.c0 f.c1 f.c2 (m - 1)))
    (then (sums power (itself m ((m - 1) * x)))
    (then (equal m (x + (m - 1) * x) (x * m) (all-x x m (m - 1) (omega arith))) (record { is = mul-mod_left x m ∙ sym (zero-mod m) })))

both : (k : ℕ) → k ≡ 0 → k ≡ 1 → ⊥
both k none one = omega arith

none-times : (k : ℕ) → k * 0 ≡ 0
none-times k = omega arith

pub no-root : (m c bits : ℕ) (inverse : Quadratic) → IsPrime m
    → times m c inverse (less-x m (power-by-squares m c bits the-x m)) ≡ one
    → (x : ℕ) → IsCongruent m (x * x * x) (3 * x + c) → ⊥
no-root m c bits inverse prime computed x cube =
    let f = less-x m (power-by-squares m c bits the-x m) in
    let none : IsCongruent m (value x (times m c inverse f)) 0 =
    then (value-of-times m c x inverse f cube)
    (then (products (itself m (value x inverse)) (value-of-difference m c bits x prime cube)) (equal m (value x inverse * 0) 0 (none-times (value x inverse)))) in
    both (value x (times m c inverse f) % m) (none.is ∙ zero-mod m)
    (ap (λ g. value x g % m) computed ∙ ap (λ k. k % m) (one-is x) ∙ mod-eq_of_lt prime.more)

-- a point of the curve with y = 0 would have such an x
pub cube-at : (m b c x : ℕ) → 0 < m → b + c ≡ m → IsCongruent m (3 * x + 0 * 0) (b + x * x * x)
    → IsCongruent m (x * x * x) (3 * x + c)
cube-at m b c x some whole is =
    then (record { is = sym (add-mod_right (x * x * x) m) })
    (then (equal m (x * x * x + m) (b + x * x * x + c) (omega arith))
    (then (sums (back is) (itself m c)) (equal m (3 * x + 0 * 0 + c) (3 * x + c) (omega arith))))
