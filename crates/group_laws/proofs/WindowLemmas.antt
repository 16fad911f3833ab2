-- What sums by digits stand for, where a formula's sum stands for the sum.
use Rattle.std.proofs.Common.{◌≡◌, ◌<◌, ℕ, zero, suc, ◌+◌, ◌*◌, ◌/◌, ◌%◌, ◌^◌, arith, ap, sym, ◌∙◌}
use Rattle.std.proofs.Math.Nat.{pow-succ'}
use Rattle.group_laws.specs.Digits.{by_digits, sixteenfold, step_of, times}
use Rattle.group_laws.specs.Groups.{no_times}
use Rattle.group_laws.proofs.LoopLemmas.{AddsPoints, StandsForMultiple, stands-for-sum}

-- what stands for the neutral element stands for [0]base
none-stands : {P A : Type 0} {IsSum : A → A → A → Type 0} {neutral : A} {StandsFor : P → A → Type 0}
    → (base : A) (none : P) → StandsFor none neutral → StandsForMultiple IsSum neutral StandsFor base none 0
none-stands {neutral = neutral} base none is = record { x = neutral; stands = is; is = no_times }

-- 0 a
times-none-is : (a : ℕ) → 0 ≡ 0 * a
times-none-is a = omega arith

-- (k + 1) a
times-more-is : (k a : ℕ) → k * a + a ≡ suc k * a
times-more-is k a = omega arith

-- k once
once-is : (k : ℕ) → k * 1 ≡ k
once-is k = omega arith

-- k times what stands for [a]base stands for [k a]base
pub times-stands : {P A : Type 0} {IsElement : A → Type 0} {IsSum : A → A → A → Type 0} {neutral : A} {StandsFor : P → A → Type 0} {add : P → P → P}
    → AddsPoints IsElement IsSum neutral StandsFor add → (base : A) → IsElement base
    → (none : P) → StandsFor none neutral → (a : ℕ) (p : P) → StandsForMultiple IsSum neutral StandsFor base p a
    → (k : ℕ) → StandsForMultiple IsSum neutral StandsFor base (times add none k p) (k * a)
unfolding times
times-stands formula base on none none_is a p p_is zero = rw (← times-none-is a) (none-stands base none none_is)
times-stands {add = add} formula base on none none_is a p p_is (suc k) =
    rw (← times-more-is k a)
    (stands-for-sum formula base on (k * a) a (times add none k p) p (times-stands formula base on none none_is a p p_is k) p_is)

-- a row's step stands for [32 ^ row]base
pub step-stands : {P A : Type 0} {IsElement : A → Type 0} {IsSum : A → A → A → Type 0} {neutral : A} {StandsFor : P → A → Type 0} {add : P → P → P}
    → AddsPoints IsElement IsSum neutral StandsFor add → (base : A) → IsElement base
    → (none : P) → StandsFor none neutral → (p : P) → StandsForMultiple IsSum neutral StandsFor base p 1
    → (row : ℕ) → StandsForMultiple IsSum neutral StandsFor base (step_of add none row p) (32 ^ row)
unfolding step_of
step-stands formula base on none none_is p p_is zero = p_is
step-stands {add = add} formula base on none none_is p p_is (suc row) =
    rw (pow-succ' 32 row)
    (times-stands formula base on none none_is (32 ^ row) (step_of add none row p) (step-stands formula base on none none_is p p_is row) 32)

-- a digit, and what is left
digit-is : (w s d : ℕ) → d + s % 32 * w + 32 * w * (s / 32) ≡ d + w * s
digit-is w s d =
    let whole : s ≡ 32 * (s / 32) + s % 32 = omega arith in
    let spread : d + s % 32 * w + 32 * w * (s / 32) ≡ d + w * (32 * (s / 32) + s % 32) = omega arith in
    spread ∙ ap (λ k. d + w * k) (sym whole)

-- a number without digits is 0
no-digit : (w s d : ℕ) → s < 32 ^ 0 → d ≡ d + w * s
no-digit w s d is =
    let none : s ≡ 0 = omega arith in
    let nothing : d ≡ d + w * 0 = omega arith in
    nothing ∙ ap (λ k. d + w * k) (sym none)

-- without its lowest digit a number has one less
rest-below : (s k : ℕ) → s < 32 ^ suc k → s / 32 < 32 ^ k
rest-below s k is = let whole : 32 ^ suc k ≡ 32 * 32 ^ k = pow-succ' 32 k in omega arith

-- from a sum for [d]base on, the sum by the digits of s from a row on stands for [d + 32 ^ row s]base
pub digits-stand : {P A : Type 0} {IsElement : A → Type 0} {IsSum : A → A → A → Type 0} {neutral : A} {StandsFor : P → A → Type 0} {add : P → P → P}
    → AddsPoints IsElement IsSum neutral StandsFor add → (base : A) → IsElement base
    → (none : P) → StandsFor none neutral → (p : P) → StandsForMultiple IsSum neutral StandsFor base p 1
    → (rows row s d : ℕ) (sum : P) → s < 32 ^ rows → StandsForMultiple IsSum neutral StandsFor base sum d
    → StandsForMultiple IsSum neutral StandsFor base (by_digits add none rows row s p sum) (d + 32 ^ row * s)
unfolding by_digits
digits-stand formula base on none none_is p p_is zero row s d sum below sum_is =
    rw (← no-digit (32 ^ row) s d below) sum_is
digits-stand {add = add} formula base on none none_is p p_is (suc rows) row s d sum below sum_is =
    let entry = times add none (s % 32) (step_of add none row p) in
    let entry_is = times-stands formula base on none none_is (32 ^ row) (step_of add none row p) (step-stands formula base on none none_is p p_is row) (s % 32) in
    rw (← digit-is (32 ^ row) s d, ← pow-succ' 32 row)
    (digits-stand formula base on none none_is p p_is rows (suc row) (s / 32) (d + s % 32 * 32 ^ row) (add sum entry)
    (rest-below s rows below) (stands-for-sum formula base on d (s % 32 * 32 ^ row) sum entry sum_is entry_is))

-- 0 + 32 ^ 0 s
from-none : (s : ℕ) → 0 + 32 ^ 0 * s ≡ s
from-none s = omega arith

-- from the neutral element on, and the first row, that is [s]base
pub all-digits-stand : {P A : Type 0} {IsElement : A → Type 0} {IsSum : A → A → A → Type 0} {neutral : A} {StandsFor : P → A → Type 0} {add : P → P → P}
    → AddsPoints IsElement IsSum neutral StandsFor add → (base : A) → IsElement base
    → (none : P) → StandsFor none neutral → (p : P) → StandsForMultiple IsSum neutral StandsFor base p 1
    → (rows s : ℕ) → s < 32 ^ rows
    → StandsForMultiple IsSum neutral StandsFor base (by_digits add none rows 0 s p none) s
all-digits-stand {add = add} formula base on none none_is p p_is rows s below =
    rw (from-none s) at (digits-stand formula base on none none_is p p_is rows 0 s 0 none below (none-stands base none none_is))

-- ---- digits, the highest first

-- 16 a, by doubling
sixteen-is : (a : ℕ) → a + a + (a + a) + (a + a + (a + a)) + (a + a + (a + a) + (a + a + (a + a))) ≡ 16 * a
sixteen-is a = omega arith

-- 16 times what stands for [a]base, and a multiple of the base by a digit behind it
pub next-digit-stands : {P A : Type 0} {IsElement : A → Type 0} {IsSum : A → A → A → Type 0} {neutral : A} {StandsFor : P → A → Type 0} {add : P → P → P}
    → AddsPoints IsElement IsSum neutral StandsFor add → (base : A) → IsElement base
    → (none : P) → StandsFor none neutral → (p : P) → StandsForMultiple IsSum neutral StandsFor base p 1
    → (a digit : ℕ) (sum : P) → StandsForMultiple IsSum neutral StandsFor base sum a
    → StandsForMultiple IsSum neutral StandsFor base (add (sixteenfold add sum) (times add none digit p)) (16 * a + digit)
unfolding sixteenfold
next-digit-stands {add = add} formula base on none none_is p p_is a digit sum sum_is =
    let twice = add sum sum in
    let twice_is = stands-for-sum formula base on a a sum sum sum_is sum_is in
    let four = add twice twice in
    let four_is = stands-for-sum formula base on (a + a) (a + a) twice twice twice_is twice_is in
    let eight = add four four in
    let eight_is = stands-for-sum formula base on (a + a + (a + a)) (a + a + (a + a)) four four four_is four_is in
    let sixteen = stands-for-sum formula base on (a + a + (a + a) + (a + a + (a + a))) (a + a + (a + a) + (a + a + (a + a))) eight eight eight_is eight_is in
    let entry = times-stands formula base on none none_is 1 p p_is digit in
    stands-for-sum formula base on (16 * a) digit (add eight eight) (times add none digit p) (rw (sixteen-is a) at sixteen) (rw (once-is digit) at entry)
