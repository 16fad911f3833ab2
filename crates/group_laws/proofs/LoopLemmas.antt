-- What doubling and adding makes, where points of one kind stand for elements of a group, and a formula adds them.
use Rattle.std.proofs.Common.{◌≡◌, ◌<◌, ℕ, zero, suc, ◌+◌, ◌*◌, ◌/◌, ◌%◌, ◌^◌, arith, ap, refl, sym, ◌∙◌}
use Rattle.std.proofs.Math.Nat.{pow-succ'}
use Rattle.group_laws.specs.Groups.{IsGroup, IsMultiple}
use Rattle.group_laws.proofs.MultipleLemmas.{has-multiple, multiple-is-element, sum-of-multiples}

-- a formula whose sum stands for the sum
pub record AddsPoints {P A : Type 0} (IsElement : A → Type 0) (IsSum : A → A → A → Type 0) (neutral : A)
    (StandsFor : P → A → Type 0) (add : P → P → P) : Type 0 where
  pub group : IsGroup IsElement IsSum neutral
  pub adds : (p q : P) (x y z : A) → StandsFor p x → StandsFor q y → IsSum x y z → StandsFor (add p q) z

-- p stands for [k]base
pub record StandsForMultiple {P A : Type 0} (IsSum : A → A → A → Type 0) (neutral : A) (StandsFor : P → A → Type 0)
    (base : A) (p : P) (k : ℕ) : Type 0 where
  pub x : A
  pub stands : StandsFor p x
  pub is : IsMultiple IsSum neutral base k x

-- what stands for [a]base and [b]base adds up to what stands for [a + b]base
pub stands-for-sum : {P A : Type 0} {IsElement : A → Type 0} {IsSum : A → A → A → Type 0} {neutral : A} {StandsFor : P → A → Type 0} {add : P → P → P}
    → AddsPoints IsElement IsSum neutral StandsFor add → (base : A) → IsElement base
    → (a b : ℕ) (p q : P) → StandsForMultiple IsSum neutral StandsFor base p a
    → StandsForMultiple IsSum neutral StandsFor base q b
    → StandsForMultiple IsSum neutral StandsFor base (add p q) (a + b)
stands-for-sum formula base on a b p q p_is q_is =
    let x_on = multiple-is-element formula.group base on a p_is.x p_is.is in
    let y_on = multiple-is-element formula.group base on b q_is.x q_is.is in
    let sum = formula.group.total p_is.x q_is.x x_on y_on in
    record {
      x = sum.third;
      stands = formula.adds p q p_is.x q_is.x sum.third p_is.stands q_is.stands sum.is;
      is = sum-of-multiples formula.group base on a b p_is.x q_is.x sum.third p_is.is q_is.is sum.is;
    }

-- p and q stand for one element
pub record StandAlike {P A : Type 0} (StandsFor : P → A → Type 0) (p q : P) : Type 0 where
  pub x : A
  pub first : StandsFor p x
  pub second : StandsFor q x

-- whatever stands for [a]x and [b]y, its sum stands for one element
pub sums-stand-alike : {P A : Type 0} {IsElement : A → Type 0} {IsSum : A → A → A → Type 0} {neutral : A} {StandsFor : P → A → Type 0} {add : P → P → P}
    → AddsPoints IsElement IsSum neutral StandsFor add → (x y : A) → IsElement x → IsElement y → (a b : ℕ) (p q r s : P)
    → ((z : A) → IsMultiple IsSum neutral x a z → StandsFor p z) → ((z : A) → IsMultiple IsSum neutral y b z → StandsFor q z)
    → ((z : A) → IsMultiple IsSum neutral x a z → StandsFor r z) → ((z : A) → IsMultiple IsSum neutral y b z → StandsFor s z)
    → StandAlike StandsFor (add p q) (add r s)
sums-stand-alike formula x y x_on y_on a b p q r s p_is q_is r_is s_is =
    let first = has-multiple formula.group x x_on a in
    let second = has-multiple formula.group y y_on b in
    let first_on = multiple-is-element formula.group x x_on a first.q first.is in
    let second_on = multiple-is-element formula.group y y_on b second.q second.is in
    let sum = formula.group.total first.q second.q first_on second_on in
    record {
      x = sum.third;
      first = formula.adds p q first.q second.q sum.third (p_is first.q first.is) (q_is second.q second.is) sum.is;
      second = formula.adds r s first.q second.q sum.third (r_is first.q first.is) (s_is second.q second.is) sum.is;
    }

-- ---- the loop: for each bit of s, the lowest first, p is added to the sum where the bit is 1, and doubled

-- the second where the bit is 1
abbrev pub choose : {P : Type 0} → ℕ → P → P → P
choose zero p q = p
choose (suc bit) p q = q

-- so many turns of the loop
abbrev pub multiply_from : {P : Type 0} → (P → P → P) → ℕ → ℕ → P → P → P
multiply_from add zero s p sum = sum
multiply_from add (suc bits) s p sum = multiply_from add bits (s / 2) (add p p) (choose (s % 2) sum (add sum p))

-- the sum and the rest of s, where its lowest bit is 0
even-turn : (s c d : ℕ) → 0 ≡ s % 2 → d + (c + c) * (s / 2) ≡ d + c * s
even-turn s c d is =
    let whole : s ≡ s / 2 + s / 2 = omega arith in
    let spread : d + (c + c) * (s / 2) ≡ d + c * (s / 2 + s / 2) = omega arith in
    spread ∙ ap (λ k. d + c * k) (sym whole)

-- and where it is 1
odd-turn : (s c d b : ℕ) → suc b ≡ s % 2 → d + c + (c + c) * (s / 2) ≡ d + c * s
odd-turn s c d b is =
    let whole : s ≡ s / 2 + s / 2 + 1 = omega arith in
    let spread : d + c + (c + c) * (s / 2) ≡ d + c * (s / 2 + s / 2 + 1) = omega arith in
    spread ∙ ap (λ k. d + c * k) (sym whole)

-- the half of a number has a bit less
half-below : (s k : ℕ) → s < 2 ^ suc k → s / 2 < 2 ^ k
-- the half of a number has a bit less
half-below s k is = let twice : 2 ^ suc k ≡ 2 * 2 ^ k = pow-succ' 2 k in omega arith

-- a number without bits is 0
no-turn : (s c d : ℕ) → s < 2 ^ 0 → d ≡ d + c * s
no-turn s c d is =
    let none : s ≡ 0 = omega arith in
    let nothing : d ≡ d + c * 0 = omega arith in
    nothing ∙ ap (λ k. d + c * k) (sym none)

-- one turn, where the rest of the loop is right for any sum
turn : {P A : Type 0} {IsElement : A → Type 0} {IsSum : A → A → A → Type 0} {neutral : A} {StandsFor : P → A → Type 0} {add : P → P → P}
    → AddsPoints IsElement IsSum neutral StandsFor add → (base : A) → IsElement base
    → (bits s c d : ℕ) (p sum : P) → StandsForMultiple IsSum neutral StandsFor base p c
    → StandsForMultiple IsSum neutral StandsFor base sum d
    → ((e : ℕ) (r : P) → StandsForMultiple IsSum neutral StandsFor base r e → StandsForMultiple IsSum neutral StandsFor base (multiply_from add bits (s / 2) (add p p) r) (e + (c + c) * (s / 2)))
    → (bit : ℕ) → bit ≡ s % 2
    → StandsForMultiple IsSum neutral StandsFor base (multiply_from add bits (s / 2) (add p p) (choose bit sum (add sum p))) (d + c * s)
turn formula base on bits s c d p sum p_is sum_is rest zero bit_is = rw (← even-turn s c d bit_is) (rest d sum sum_is)
turn {add = add} formula base on bits s c d p sum p_is sum_is rest (suc bit) bit_is =
    rw (← odd-turn s c d bit bit_is) (rest (d + c) (add sum p) (stands-for-sum formula base on d c sum p sum_is p_is))

-- from what stands for [c]base and a sum for [d]base the loop makes what stands for [d + c s]base
pub loop-makes : {P A : Type 0} {IsElement : A → Type 0} {IsSum : A → A → A → Type 0} {neutral : A} {StandsFor : P → A → Type 0} {add : P → P → P}
    → AddsPoints IsElement IsSum neutral StandsFor add → (base : A) → IsElement base
    → (bits s c d : ℕ) (p sum : P) → s < 2 ^ bits
    → StandsForMultiple IsSum neutral StandsFor base p c
    → StandsForMultiple IsSum neutral StandsFor base sum d
    → StandsForMultiple IsSum neutral StandsFor base (multiply_from add bits s p sum) (d + c * s)
loop-makes formula base on zero s c d p sum below p_is sum_is = rw (← no-turn s c d below) sum_is
loop-makes {add = add} formula base on (suc bits) s c d p sum below p_is sum_is =
    turn formula base on bits s c d p sum p_is sum_is
    (λ e r r_is. loop-makes formula base on bits (s / 2) (c + c) e (add p p) r (half-below s bits below) (stands-for-sum formula base on c c p p p_is p_is) r_is)
    (s % 2) refl
