-- Multiples in a commutative group.
use Rattle.std.proofs.Common.{◌≡◌, ℕ, zero, suc, ◌+◌, ◌*◌, ◌/◌, ◌%◌, arith, ap, refl, sym, ◌∙◌}
use Rattle.std.proofs.Math.Nat.{div-add-mod'}
use Rattle.group_laws.specs.Groups.{HasMultiple, IsGroup, IsMultiple, no_times, once_more}

-- a multiple is an element
pub multiple-is-element : {A : Type 0} {IsElement : A → Type 0} {IsSum : A → A → A → Type 0} {neutral : A}
    → IsGroup IsElement IsSum neutral → (p : A) → IsElement p → (k : ℕ) (q : A)
    → IsMultiple IsSum neutral p k q → IsElement q
multiple-is-element group p on _ _ no_times = group.neutral_is_element
multiple-is-element group p on _ _ (once_more k q r is sum) =
    group.closed q p r (multiple-is-element group p on k q is) on sum

-- each number has a multiple
pub has-multiple : {A : Type 0} {IsElement : A → Type 0} {IsSum : A → A → A → Type 0} {neutral : A}
    → IsGroup IsElement IsSum neutral → (p : A) → IsElement p → (k : ℕ)
    → HasMultiple IsSum neutral p k
has-multiple {neutral = neutral} group p on zero = record { q = neutral; is = no_times }
has-multiple group p on (suc k) =
    let before = has-multiple group p on k in
    let sum = group.total before.q p (multiple-is-element group p on k before.q before.is) on in
    record { q = sum.third; is = once_more k before.q sum.third before.is sum.is }

-- one alone
pub multiple-unique : {A : Type 0} {IsElement : A → Type 0} {IsSum : A → A → A → Type 0} {neutral : A}
    → IsGroup IsElement IsSum neutral → (p : A) → IsElement p → (k : ℕ) (q r : A)
    → IsMultiple IsSum neutral p k q → IsMultiple IsSum neutral p k r → q ≡ r
multiple-unique group p on _ _ _ no_times no_times = refl
multiple-unique group p on _ _ _ (once_more k q r is sum) (once_more _ q' r' is' sum') =
    let same = multiple-unique group p on k q q' is is' in
    group.unique q p r r' (multiple-is-element group p on k q is) on sum (rw same sum')

-- a + (b + 1)
more-is : (a b : ℕ) → suc (a + b) ≡ a + suc b
more-is a b = omega arith

-- a + 0
none-is : (a : ℕ) → a ≡ a + 0
none-is a = omega arith

-- [a]p + [b]p is [a + b]p
pub sum-of-multiples : {A : Type 0} {IsElement : A → Type 0} {IsSum : A → A → A → Type 0} {neutral : A}
    → IsGroup IsElement IsSum neutral → (p : A) → IsElement p → (a b : ℕ) (x y z : A)
    → IsMultiple IsSum neutral p a x → IsMultiple IsSum neutral p b y → IsSum x y z
    → IsMultiple IsSum neutral p (a + b) z
sum-of-multiples {neutral = neutral} group p on a _ x _ z x_is no_times sum =
    let x_on = multiple-is-element group p on a x x_is in
    let back = group.commutes neutral x x group.neutral_is_element x_on (group.neutral_adds_nothing x x_on) in
    rw (← group.unique x neutral x z x_on group.neutral_is_element back sum, ← none-is a) x_is
sum-of-multiples group p on a _ x _ z x_is (once_more b y y' y_is y_sum) sum =
    let x_on = multiple-is-element group p on a x x_is in
    let y_on = multiple-is-element group p on b y y_is in
    let s = group.total x y x_on y_on in
    let s_is = sum-of-multiples group p on a b x y s.third x_is y_is s.is in
    let last = group.total s.third p (multiple-is-element group p on (a + b) s.third s_is) on in
    let same = group.associates x y p s.third y' last.third z x_on y_on on s.is last.is y_sum sum in
    rw (← more-is a b, ← same) (once_more (a + b) s.third last.third s_is last.is)

-- 0 a
times-none : (a : ℕ) → 0 ≡ 0 * a
times-none a = omega arith

-- (b + 1) a
times-more : (b a : ℕ) → b * a + a ≡ suc b * a
times-more b a = omega arith

-- [b]([a]p) is [b a]p
pub multiple-of-multiple : {A : Type 0} {IsElement : A → Type 0} {IsSum : A → A → A → Type 0} {neutral : A}
    → IsGroup IsElement IsSum neutral → (p : A) → IsElement p → (a : ℕ) (x : A)
    → IsMultiple IsSum neutral p a x → (b : ℕ) (y : A) → IsMultiple IsSum neutral x b y
    → IsMultiple IsSum neutral p (b * a) y
multiple-of-multiple group p on a x x_is _ _ no_times = rw (← times-none a) no_times
multiple-of-multiple group p on a x x_is _ _ (once_more b y y' y_is sum) =
    rw (← times-more b a)
    (sum-of-multiples group p on (b * a) a y x y' (multiple-of-multiple group p on a x x_is b y y_is) x_is sum)

-- ---- multiples of an element of which [n]p is the neutral one

-- each multiple of the neutral element is the neutral one
pub neutral-alone : {A : Type 0} {IsElement : A → Type 0} {IsSum : A → A → A → Type 0} {neutral : A}
    → IsGroup IsElement IsSum neutral → (k : ℕ) (q : A) → IsMultiple IsSum neutral neutral k q
    → q ≡ neutral
neutral-alone group _ _ no_times = refl
neutral-alone {IsSum = IsSum} {neutral = neutral} group _ _ (once_more k q r is sum) =
    let nothing = group.neutral_adds_nothing neutral group.neutral_is_element in
    let same = neutral-alone group k q is in
    group.unique neutral neutral r neutral group.neutral_is_element group.neutral_is_element (rw same at sum) nothing

-- [r]p is [c n + r]p
turns-change-nothing : {A : Type 0} {IsElement : A → Type 0} {IsSum : A → A → A → Type 0} {neutral : A}
    → IsGroup IsElement IsSum neutral → (p : A) → IsElement p → (n c r : ℕ) (x : A)
    → IsMultiple IsSum neutral p n neutral → IsMultiple IsSum neutral p r x
    → IsMultiple IsSum neutral p (c * n + r) x
turns-change-nothing {neutral = neutral} group p on n c r x n_is x_is =
    let many = has-multiple group neutral group.neutral_is_element c in
    let whole = multiple-of-multiple group p on n neutral n_is c many.q many.is in
    let x_on = multiple-is-element group p on r x x_is in
    sum-of-multiples group p on (c * n) r neutral x x (rw (neutral-alone group c many.q many.is) at whole) x_is
    (group.neutral_adds_nothing x x_on)

-- so where a is c n + r, [a]p is [r]p
of-rest : {A : Type 0} {IsElement : A → Type 0} {IsSum : A → A → A → Type 0} {neutral : A}
    → IsGroup IsElement IsSum neutral → (p : A) → IsElement p → (n c r a : ℕ) (x z : A)
    → c * n + r ≡ a → IsMultiple IsSum neutral p n neutral
    → IsMultiple IsSum neutral p a x → IsMultiple IsSum neutral p r z → x ≡ z
of-rest group p on n c r a x z a_is n_is x_is z_is =
    multiple-unique group p on a x z x_is (rw a_is at (turns-change-nothing group p on n c r z n_is z_is))

-- [a]p depends on a modulo n alone
pub multiple-modulo : {A : Type 0} {IsElement : A → Type 0} {IsSum : A → A → A → Type 0} {neutral : A}
    → IsGroup IsElement IsSum neutral → (p : A) → IsElement p → (n a b : ℕ) (x y : A)
    → IsMultiple IsSum neutral p n neutral → a % n ≡ b % n
    → IsMultiple IsSum neutral p a x → IsMultiple IsSum neutral p b y → x ≡ y
multiple-modulo group p on n a b x y n_is same x_is y_is =
    let rest = has-multiple group p on (a % n) in
    let b_split = ap (λ r. b / n * n + r) same ∙ div-add-mod' b n in
    of-rest group p on n (a / n) (a % n) a x rest.q (div-add-mod' a n) n_is x_is rest.is
    ∙ sym (of-rest group p on n (b / n) (a % n) b y rest.q b_split n_is y_is rest.is)
