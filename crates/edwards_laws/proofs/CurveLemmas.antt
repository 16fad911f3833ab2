-- p of Ed25519 is prime, d is no square, and - 1 is one.
use Rattle.std.proofs.Common.{◌≡◌, ◌<◌, ◌-◌, ◌/◌, ◌^◌, ℕ, zero, suc, ◌+◌, ◌*◌, ◌%◌, arith, ap, refl, sym, ◌∙◌}
use Rattle.std.proofs.Math.Nat.{mod-lt, pow-suc}
use Rattle.std.proofs.lemmas.Nat.{mul-mod, mul-pow, pow-add, pow-mod}
use Rattle.field25519.specs.Field.{prime}
use Rattle.curve25519.specs.Points.{curve_d}
use Rattle.curve25519.specs.Encoding.{root_of_minus_one}
use Rattle.prime_laws.specs.Primes.{IsPrime}
use Rattle.prime_laws.proofs.FermatLemmas.{power-inverts}
use Rattle.prime_laws.proofs.InverseLemmas.{inverse-of}
use Rattle.prime_laws.proofs.PowerLemmas.{power, power-is}
use Rattle.curve_laws.proofs.DifferenceLemmas.{IsCongruent}
use Rattle.curve_laws.proofs.UnitLemmas.{IsUnit, unit-of}
use Rattle.edwards_laws.proofs.PrimeChain.{prime-of-255-bits}
use Rattle.edwards_laws.proofs.SumLemmas.{IsEdwards}

-- p is not 0,
pub some : 0 < prime
some = omega arith

-- ---- squares, by Fermat's theorem

-- a b is b a
times-turned : (a b : ℕ) → a * b ≡ b * a
times-turned a b = omega arith

-- x x to the h is x times its inverse, where n is 2 h + 1
even-power : (x h n : ℕ) → h + h + 1 ≡ n → 1 < n → (x * x) ^ h ≡ x * x ^ (n - 2)
even-power x h n n_is more =
    let one_less : h + h ≡ suc (n - 2) = omega arith in
    mul-pow x x h ∙ sym (pow-add x h h) ∙ ap (λ k. x ^ k) one_less ∙ pow-suc x (n - 2)
    ∙ times-turned (x ^ (n - 2)) x

-- modulo n = 2 h + 1, a prime, a square that isn't 0 has the power 1 to the h
pub power-of-square : (n h d x : ℕ) → IsPrime n → h + h + 1 ≡ n → 0 < x → x < n → (x * x) % n ≡ d % n → d ^ h % n ≡ 1
power-of-square n h d x n_prime n_is x_some below is =
    sym (pow-mod d h n) ∙ ap (λ k. k ^ h % n) (sym is) ∙ pow-mod (x * x) h n
    ∙ ap (λ k. k % n) (even-power x h n n_is n_prime.more) ∙ power-inverts n x n_prime x_some below

-- d to the (p - 1) / 2 is - 1: computed
power-of-d : power prime 255 curve_d ((prime - 1) / 2) ≡ prime - 1
power-of-d = refl

-- 1 is not - 1
not-both : (n k : ℕ) → 2 < n → k ≡ 1 → k ≡ n - 1 → ⊥
not-both n k more one last = omega arith

-- and more than 2
more : 2 < prime
more = omega arith

-- d has no root below p,
no-root-at : (x : ℕ) → x < prime → (x * x) % prime ≡ curve_d % prime → ⊥
no-root-at zero below is = no-zero-root is
  where
    no-zero-root : (0 * 0) % prime ≡ curve_d % prime → ⊥
    no-zero-root is = omega arith
no-root-at (suc x) below is =
    not-both prime (curve_d ^ ((prime - 1) / 2) % prime) more
    (power-of-square prime ((prime - 1) / 2) curve_d (suc x) prime-of-255-bits (omega arith) (omega arith) below is)
    (sym (power-is prime 255 curve_d ((prime - 1) / 2)) ∙ power-of-d)

-- and none at all
no-square : (r : ℕ) → IsCongruent prime (r * r) curve_d → ⊥
no-square r is = no-root-at (r % prime) (mod-lt r some) (sym (mul-mod r r prime) ∙ is.is)

-- ---- the curve

-- what is not 0 has an inverse
inverted : (v : ℕ) → 0 < v → v < prime → IsUnit prime v
inverted v v_some below =
    let has = inverse-of prime v prime-of-255-bits v_some below in unit-of prime v has.inverse (omega arith) has.is

-- edwards25519
pub curve : IsEdwards prime curve_d
curve =
    record {
      field = record { more = more; inverts = inverted };
      i = root_of_minus_one;
      i_is = record { is = refl };
      no_square = no-square;
    }
