-- Powers modulo n by squarings, which the checker computes over numerals.
use Rattle.std.proofs.Common.{◌≡◌, ◌<◌, ◌^◌, ◌/◌, ℕ, zero, suc, ◌+◌, ◌*◌, ◌%◌, arith, ap, refl, sym, ◌∙◌}
use Rattle.std.proofs.Math.Nat.{div-add-mod', mod-eq_of_lt, one-mul, pow-suc, pow-zero}
use Rattle.std.proofs.lemmas.Nat.{mul-mod_first, mul-pow, pow-add, pow-mod}

-- x ^ e modulo n, where e is below 2 ^ bits; a greater e leaves a greater power at the end
abbrev pub power : (n bits x e : ℕ) → ℕ
power n zero x e = x ^ e % n
power n (suc bits) x e = (power n bits (x * x % n) (e / 2) * x ^ (e % 2)) % n

halved : (h e r : ℕ) → h * 2 + r ≡ e → h + h + r ≡ e
halved h e r is = omega arith

pub squares-and-rest : (x e : ℕ) → (x * x) ^ (e / 2) * x ^ (e % 2) ≡ x ^ e
squares-and-rest x e =
    ap (λ k. k * x ^ (e % 2)) (mul-pow x x (e / 2) ∙ sym (pow-add x (e / 2) (e / 2)))
    ∙ sym (pow-add x (e / 2 + e / 2) (e % 2)) ∙ ap (λ k. x ^ k) (halved (e / 2) e (e % 2) (div-add-mod' e 2))

pub power-is : (n bits x e : ℕ) → power n bits x e ≡ x ^ e % n
power-is n zero x e = refl
power-is n (suc bits) x e =
    ap (λ k. (k * x ^ (e % 2)) % n) (power-is n bits (x * x % n) (e / 2) ∙ pow-mod (x * x) (e / 2) n)
    ∙ mul-mod_first ((x * x) ^ (e / 2)) (x ^ (e % 2)) n ∙ ap (λ k. k % n) (squares-and-rest x e)

-- ---- powers of products and of 1

pub power-of-one : (k : ℕ) → 1 ^ k ≡ 1
power-of-one zero = refl
power-of-one (suc k) = pow-suc 1 k ∙ ap (λ n. n * 1) (power-of-one k)

pub first-power : (x : ℕ) → x ^ 1 ≡ x
first-power x = pow-suc x 0 ∙ ap (λ k. k * x) (pow-zero x) ∙ one-mul x

none-times : (a : ℕ) → 0 ≡ a * 0
none-times a = omega arith

one-more : (a b : ℕ) → a * b + a ≡ a * suc b
one-more a b = omega arith

pub power-of-power : (x a b : ℕ) → (x ^ a) ^ b ≡ x ^ (a * b)
power-of-power x a zero = pow-zero (x ^ a) ∙ sym (pow-zero x) ∙ ap (λ k. x ^ k) (none-times a)
power-of-power x a (suc b) =
    pow-suc (x ^ a) b ∙ ap (λ k. k * x ^ a) (power-of-power x a b) ∙ sym (pow-add x (a * b) a) ∙ ap (λ k. x ^ k) (one-more a b)

-- what is 1 modulo r has each power 1
pub power-of-unity : (r a k : ℕ) → 1 < r → a % r ≡ 1 → a ^ k % r ≡ 1
power-of-unity r a k more is =
    sym (pow-mod a k r) ∙ ap (λ n. n ^ k % r) is ∙ ap (λ n. n % r) (power-of-one k) ∙ mod-eq_of_lt more
