-- What a point of edwards25519 is encoded as is decoded again: steps 2 to 4 find the x of each point.
use Rattle.std.proofs.Common.{◌≡◌, ◌<◌, ◌-◌, ◌⊎◌, inl, inr, ℕ, zero, suc, ◌+◌, ◌*◌, ◌/◌, ◌%◌, ◌^◌, arith, ap, refl, sym, ◌∙◌, Bool, true, false, Option, Some, None, nat_eq, nat_lt, if◌then◌else◌}
use Rattle.std.proofs.Math.Nat.{mod-eq_of_lt, pow-succ'}
use Rattle.std.proofs.lemmas.Bool.{eq-eqb, lt-ltb}
use Rattle.std.proofs.lemmas.Bool.Decides.{nat_tests}
use Rattle.std.proofs.lemmas.Nat.{mod_below, pow-add, pow-mod}
use Rattle.field25519.specs.Field.{field_add, field_mul, field_pow, field_sub, prime}
use Rattle.curve25519.specs.declared.point.Point.{Point}
use Rattle.curve25519.specs.Encoding.{decoded, encoded, point_of, recovered_x, root_candidate, signed_root, square_root, with_sign}
use Rattle.curve25519.specs.Points.{curve_d, point_at}
use Rattle.curve_laws.proofs.DifferenceLemmas.{IsCongruent, back, equal, itself, products, shifted, sums, then as chain, without}
use Rattle.curve_laws.proofs.FieldLemmas.{opposite}
use Rattle.curve_laws.proofs.UnitLemmas.{IsUnit, unit-alike, unit-product, unit-some}
use Rattle.group_laws.proofs.FieldLemmas.{IsField, decided, has-quotient, settle, some-of}
use Rattle.group_laws.proofs.LineLemmas.{comes-to}
use Rattle.edwards_laws.specs.Points.{Affine, IsPoint, StandsFor}
use Rattle.edwards_laws.proofs.CurveLemmas.{curve, power-of-square, some}
use Rattle.edwards_laws.proofs.DecodedLemmas.{difference-below, root-is}
use Rattle.edwards_laws.proofs.EncodedLemmas.{encoding-is}
use Rattle.edwards_laws.proofs.GroupLemmas.{to-on}
use Rattle.edwards_laws.proofs.PrimeChain.{prime-of-255-bits}
use Rattle.edwards_laws.proofs.RootLemmas.{less-one, one-more, remainder, within}

-- ---- roots

-- numbers that have one square are equal or opposite
roots-by : (m r x : ℕ) → IsField m → IsCongruent m (r * r) (x * x)
    → IsCongruent m r x ⊎ (IsCongruent m r x → ⊥) → IsCongruent m r x ⊎ IsCongruent m (r + x) 0
roots-by m r x field is (inl same) = inl same
roots-by m r x field is (inr differ) =
    let i = has-quotient m x r field (λ same. differ (back same)) in
    inr (comes-to (some-of m field.more) (shifted (r + x) 0 i.is (shifted 0 i.i is (itself m (r + x)))) 0 (omega arith))

roots : (m r x : ℕ) → IsField m → IsCongruent m (r * r) (x * x) → IsCongruent m r x ⊎ IsCongruent m (r + x) 0
roots m r x field is = roots-by m r x field is (decided m r x)

-- one square, by one multiple of it
same-square : (m v r x u : ℕ) → 0 < m → IsUnit m v → IsCongruent m (v * (r * r)) u → IsCongruent m (v * (x * x)) u
    → IsCongruent m (r * r) (x * x)
same-square m v r x u m_some unit r_is x_is =
    let j = unit.inverse in
    comes-to m_some (shifted (r * r) (x * x) unit.is (shifted 0 j (chain r_is (back x_is)) (itself m (r * r)))) (x * x) (omega arith)

-- ---- step 2: v c c is u t ^ (2 e + 1), where t is u v ^ 7

-- a power of a number that is congruent
powers : (m a b k : ℕ) → IsCongruent m a b → IsCongruent m (a ^ k) (b ^ k)
powers m a b k is = record { is = sym (pow-mod a k m) ∙ ap (λ n. n ^ k % m) is.is ∙ pow-mod b k m }

regrouped : (u v v3 q : ℕ) → v * (u * v3 * q * (u * v3 * q)) ≡ u * (u * (v3 * v3 * v) * (q * q))
regrouped u v v3 q = omega arith

candidate-is : (m u v v3 v7 t q c : ℕ) → IsCongruent m v7 (v3 * v3 * v) → IsCongruent m t (u * v7)
    → IsCongruent m c (u * v3 * q) → IsCongruent m (v * (c * c)) (u * (t * (q * q)))
candidate-is m u v v3 v7 t q c v7_is t_is c_is =
    let spread = chain t_is (products (equal m u u refl) v7_is) in
    chain (products (equal m v v refl) (products c_is c_is))
    (chain (equal m _ _ (regrouped u v v3 q))
    (products (equal m u u refl) (products (back spread) (equal m (q * q) (q * q) refl))))

-- e is (p - 5) / 8
abbrev eighth : ℕ
eighth = (prime - 5) / 8

-- t ^ (2 e + 1)
abbrev odd : ℕ → ℕ
odd t = t * (t ^ eighth * t ^ eighth)

-- whose square is t ^ (4 e + 2), where 4 e + 2 is (p - 1) / 2
half : suc (eighth + eighth) + suc (eighth + eighth) + (suc (eighth + eighth) + suc (eighth + eighth)) + 1 ≡ prime
half = refl

odd-is : (t : ℕ) → odd t ≡ t ^ suc (eighth + eighth)
odd-is t = ap (λ k. t * k) (sym (pow-add t eighth eighth)) ∙ sym (pow-succ' t (eighth + eighth))

odd-square : (t : ℕ) → odd t * odd t ≡ t ^ (suc (eighth + eighth) + suc (eighth + eighth))
odd-square t =
    ap (λ k. k * k) (odd-is t) ∙ sym (pow-add t (suc (eighth + eighth)) (suc (eighth + eighth)))

more : 1 < prime
more = omega arith

-- so of a square that isn't 0 it is 1 or - 1
odd-unit : (t s : ℕ) → 0 < s → s < prime → IsCongruent prime (s * s) t
    → IsCongruent prime (odd t) 1 ⊎ IsCongruent prime (odd t + 1) 0
odd-unit t s s_some below is =
    roots prime (odd t) 1 curve.field
    (record {
      is = ap (λ k. k % prime) (odd-square t)
          ∙ power-of-square prime (suc (eighth + eighth) + suc (eighth + eighth)) t s prime-of-255-bits half s_some below is.is
          ∙ sym (mod-eq_of_lt more);
    })

rest : (a : ℕ) → IsCongruent prime (a % prime) a
rest a = remainder prime a (a % prime) refl some

itself-is : (a : ℕ) → IsCongruent prime a a
itself-is a = equal prime a a refl

-- v ^ 3, v ^ 7 and u v ^ 7
abbrev cube : ℕ → ℕ
cube v = field_mul (field_mul v v) v

abbrev seventh : ℕ → ℕ
seventh v = field_mul (field_mul (cube v) (cube v)) v

abbrev power_base : ℕ → ℕ → ℕ
power_base u v = field_mul u (seventh v)

seventh-is : (v : ℕ) → IsCongruent prime (seventh v) (cube v * cube v * v)
unfolding field_mul
seventh-is v = chain (rest _) (products (rest (cube v * cube v)) (itself-is v))

cube-is : (v : ℕ) → IsCongruent prime (cube v) (v * v * v)
unfolding field_mul
cube-is v = chain (rest _) (products (rest (v * v)) (itself-is v))

base-is : (u v : ℕ) → IsCongruent prime (power_base u v) (u * seventh v)
unfolding field_mul
base-is u v = rest _

root-candidate-is : (u v : ℕ)
    → IsCongruent prime (root_candidate u v) (u * cube v * power_base u v ^ eighth)
unfolding root_candidate field_mul field_pow
root-candidate-is u v = chain (rest _) (products (rest _) (rest _))

candidate-square : (u v : ℕ)
    → IsCongruent prime (v * (root_candidate u v * root_candidate u v)) (u * odd (power_base u v))
candidate-square u v =
    candidate-is prime u v (cube v) (seventh v) (power_base u v) (power_base u v ^ eighth) (root_candidate u v)
    (seventh-is v) (base-is u v) (root-candidate-is u v)

-- u v ^ 7 is the square of x v ^ 4, where u is v x x
squared : (v x : ℕ) → (x * v * v * v * v) * (x * v * v * v * v) ≡ v * (x * x) * (v * v * v * (v * v * v) * v)
squared v x = omega arith

base-square : (u v x : ℕ) → IsCongruent prime (v * (x * x)) u
    → IsCongruent prime ((x * v * v * v * v) % prime * ((x * v * v * v * v) % prime)) (power_base u v)
base-square u v x is =
    chain (products (rest (x * v * v * v * v)) (rest (x * v * v * v * v)))
    (chain (equal prime _ _ (squared v x))
    (back (chain (base-is u v) (products (back is) (chain (seventh-is v) (products (products (cube-is v) (cube-is v)) (itself-is v)))))))

-- ---- step 3 finds a root where there is one

-- w is u, or its opposite
passes : (u v : ℕ) → u < prime → IsCongruent prime (odd (power_base u v)) 1 ⊎ IsCongruent prime (odd (power_base u v) + 1) 0
    → (field_mul v (field_mul (root_candidate u v) (root_candidate u v)) ≡ u)
    ⊎ (field_mul v (field_mul (root_candidate u v) (root_candidate u v)) ≡ field_sub 0 u)
unfolding field_mul field_sub
passes u v below (inl one) =
    let c = root_candidate u v in
    let w_is = chain (rest (v * ((c * c) % prime))) (chain (products (itself-is v) (rest (c * c))) (candidate-square u v)) in
    inl (settle prime _ u (mod_below _ prime some) below
    (chain w_is (chain (products (itself-is u) one) (equal prime (u * 1) u (omega arith)))))
passes u v below (inr minus) =
    let c = root_candidate u v in
    let w_is = chain (rest (v * ((c * c) % prime))) (chain (products (itself-is v) (rest (c * c))) (candidate-square u v)) in
    let none : IsCongruent prime (u * odd (power_base u v) + u) 0 =
    chain (equal prime _ (u * (odd (power_base u v) + 1)) (omega arith))
    (chain (products (itself-is u) minus) (equal prime (u * 0) 0 (omega arith))) in
    let other : IsCongruent prime ((0 + (prime - u)) % prime + u) 0 =
    chain (equal prime _ (u + (0 + (prime - u)) % prime) (omega arith)) (opposite prime u some (within u below)) in
    inr (settle prime _ _ (mod_below _ prime some) (mod_below _ prime some)
    (without u some (chain (chain (sums w_is (itself-is u)) none) (back other))))

-- 0 passes as the root of 0
zero-passes : (v : ℕ) → field_mul v (field_mul (root_candidate 0 v) (root_candidate 0 v)) ≡ 0
unfolding field_mul
zero-passes v =
    let c = root_candidate 0 v in
    let none : IsCongruent prime c 0 =
    chain (root-candidate-is 0 v) (equal prime (0 * cube v * power_base 0 v ^ eighth) 0 (omega arith)) in
    settle prime _ 0 (mod_below _ prime some) (omega arith)
    (chain (rest (v * ((c * c) % prime)))
    (chain (products (itself-is v) (chain (rest (c * c)) (products none none))) (equal prime (v * (0 * 0)) 0 (omega arith))))

record HasRoot (o : Option ℕ) : Type 0 where
  root : ℕ
  is : o ≡ Some root

found : (a b : Bool) (x y : ℕ) → (a ≡ true) ⊎ (b ≡ true)
    → HasRoot (if a then Some x else (if b then Some y else None))
found true b x y either = record { root = x; is = refl }
found false true x y either = record { root = y; is = refl }
found false false x y (inl is) = absurd (grind arith)
found false false x y (inr is) = absurd (grind arith)

either-passes : (w u o : ℕ) → (w ≡ u) ⊎ (w ≡ o) → (nat_eq w u ≡ true) ⊎ (nat_eq w o ≡ true)
either-passes w u o (inl is) = inl (eq-eqb w u is)
either-passes w u o (inr is) = inr (eq-eqb w o is)

by-passing : (u v : ℕ)
    → (field_mul v (field_mul (root_candidate u v) (root_candidate u v)) ≡ u)
    ⊎ (field_mul v (field_mul (root_candidate u v) (root_candidate u v)) ≡ field_sub 0 u)
    → HasRoot (square_root u v)
unfolding square_root
by-passing u v either = found _ _ _ _ (either-passes _ u (field_sub 0 u) either)

square-found : (u v x : ℕ) → u < prime → x < prime → IsUnit prime v → IsCongruent prime (v * (x * x)) u
    → HasRoot (square_root u v)
square-found u v zero below x_below unit is =
    let none : u ≡ 0 = settle prime u 0 below (omega arith) (chain (back is) (equal prime (v * (0 * 0)) 0 (omega arith))) in
    rw none (by-passing 0 v (inl (zero-passes v)))
square-found u v (suc x) below x_below unit is =
    let x_unit = curve.field.inverts (suc x) (omega arith) x_below in
    let s_unit = unit-alike prime _ _ (rest (suc x * v * v * v * v))
    (unit-product prime (suc x * v * v * v) v (unit-product prime (suc x * v * v) v (unit-product prime (suc x * v) v (unit-product prime (suc x) v x_unit unit) unit) unit) unit) in
    by-passing u v (passes u v below
    (odd-unit (power_base u v) ((suc x * v * v * v * v) % prime) (unit-some prime _ more s_unit) (mod_below _ prime some) (base-square u v (suc x) is)))

-- ---- step 4 chooses it by its lowest bit

next-not-zero : (x : ℕ) → nat_eq (suc x) 0 ≡ false
next-not-zero x = grind (arith, nat_tests)

sign-same : (x : ℕ) → with_sign (x % 2) x ≡ Some x
unfolding with_sign
sign-same zero = refl
sign-same (suc x) = rw (next-not-zero x, eq-eqb (suc x % 2) (suc x % 2) refl) refl

not-zero : (r x : ℕ) → r + x ≡ prime → x < prime → nat_eq r 0 ≡ false
not-zero r x is below = grind (arith, nat_tests)

not-same : (r x : ℕ) → r + x ≡ prime → nat_eq (r % 2) (x % 2) ≡ false
not-same r x is = let apart : (r % 2 ≡ x % 2) → ⊥ = λ same. omega (arith, is, same) in grind (arith, nat_tests)

sign-opposite : (r x : ℕ) → r + x ≡ prime → x < prime → with_sign (x % 2) r ≡ Some x
unfolding with_sign field_sub
sign-opposite r x is below =
    let other : (0 + (prime - r)) % prime ≡ x = omega (arith, is, below) in
    rw (not-zero r x is below, not-same r x is, other) refl

-- two numbers below p whose sum is 0 are 0, or have the sum p
opposites-are : (r x : ℕ) → r < prime → x < prime → IsCongruent prime (r + x) 0 → (r ≡ x) ⊎ (r + x ≡ prime)
opposites-are zero zero r_below x_below is = inl refl
opposites-are (suc r) x r_below x_below is = inr (let none = is.is in omega (arith, none, r_below, x_below))
opposites-are zero (suc x) r_below x_below is = inr (let none = is.is in omega (arith, none, x_below))

by-sum : (r x : ℕ) → x < prime → (r ≡ x) ⊎ (r + x ≡ prime) → with_sign (x % 2) r ≡ Some x
by-sum r x below (inl same) = rw same (sign-same x)
by-sum r x below (inr sum) = sign-opposite r x sum below

sign-chooses : (r x : ℕ) → r < prime → x < prime → IsCongruent prime r x ⊎ IsCongruent prime (r + x) 0
    → with_sign (x % 2) r ≡ Some x
sign-chooses r x r_below x_below (inl same) = by-sum r x x_below (inl (settle prime r x r_below x_below same))
sign-chooses r x r_below x_below (inr none) = by-sum r x x_below (opposites-are r x r_below x_below none)

signed-by : (u v x : ℕ) → u < prime → x < prime → IsUnit prime v → IsCongruent prime (v * (x * x)) u
    → (o : Option ℕ) → square_root u v ≡ o → HasRoot o → signed_root (x % 2) o ≡ Some x
unfolding signed_root
signed-by u v x below x_below unit is o o_is has =
    let first = root-is u v has.root below (o_is ∙ has.is) in
    ap (λ k. signed_root (x % 2) k) has.is
    ∙ sign-chooses has.root x first.1 x_below (roots prime has.root x curve.field (same-square prime v has.root x u some unit first.0 is))

-- ---- the x of a point

-- d + 1 isn't 0
never-least : IsCongruent prime (curve_d + 1) 0 → ⊥
never-least is = let none = is.is in omega (arith, none)

-- so d y y + 1 isn't 0 where y y - 1 is x x times it
v-unit : (d x y u v : ℕ) → v < prime → IsCongruent prime (u + 1) (y * y) → IsCongruent prime v (curve_d * (y * y) + 1)
    → IsCongruent prime (v * (x * x)) u → IsUnit prime v
v-unit d x y u zero below u_is v_is is =
    let none : IsCongruent prime u 0 = chain (back is) (equal prime (0 * (x * x)) 0 (omega arith)) in
    let one : IsCongruent prime (y * y) 1 = chain (back u_is) (chain (sums none (itself-is 1)) (equal prime (0 + 1) 1 (omega arith))) in
    absurd (never-least (back (chain v_is (chain (sums (products (itself-is curve_d) one) (itself-is 1)) (equal prime (curve_d * 1 + 1) (curve_d + 1) (omega arith))))))
v-unit d x y u (suc v) below u_is v_is is = curve.field.inverts (suc v) (omega arith) below

-- of a point, x x (d y y + 1) is y y - 1
by-curve : (d x y u v : ℕ) → IsCongruent prime (u + 1) (y * y) → IsCongruent prime v (d * (y * y) + 1)
    → IsCongruent prime (y * y) (x * x + 1 + d * x * x * y * y) → IsCongruent prime (v * (x * x)) u
by-curve d x y u v u_is v_is on =
    comes-to some (shifted 0 (x * x) v_is (shifted 1 0 on (shifted 1 0 u_is (itself prime (v * (x * x)))))) u (omega arith)

above-less : (k : ℕ) → field_add k 1 < prime
unfolding field_add
above-less k = mod_below _ prime some

-- y y - 1 and d y y + 1
u-of : (y : ℕ) → IsCongruent prime (field_sub (field_mul y y) 1 + 1) (y * y)
unfolding field_sub field_mul
u-of y = less-one prime (y * y) some

v-of : (y : ℕ) → IsCongruent prime (field_add (field_mul curve_d (field_mul y y)) 1) (curve_d * (y * y) + 1)
unfolding field_add field_mul
v-of y = one-more prime curve_d (y * y) some

x-recovered : (z : Affine) → IsPoint z → recovered_x (z.x % 2) z.y ≡ Some z.x
unfolding recovered_x
x-recovered z on =
    let u = field_sub (field_mul z.y z.y) 1 in
    let v = field_add (field_mul curve_d (field_mul z.y z.y)) 1 in
    let u_is = u-of z.y in
    let v_is = v-of z.y in
    let is = by-curve curve_d z.x z.y u v u_is v_is (to-on z on).on in
    let unit = v-unit curve_d z.x z.y u v (above-less _) u_is v_is is in
    signed-by u v z.x (difference-below _) on.x_below unit is (square_root u v) refl
    (square-found u v z.x (difference-below _) on.x_below unit is)

-- ---- what is encoded is decoded

low-part : (x y : ℕ) → y < prime → (y + 2 ^ 255 * (x % 2)) % 2 ^ 255 ≡ y
low-part x y below = omega arith

high-part : (x y : ℕ) → y < prime → (y + 2 ^ 255 * (x % 2)) / 2 ^ 255 ≡ x % 2
high-part x y below = omega arith

pub decoded-again : (p : Point) (z : Affine) → StandsFor p z → decoded (encoded p) ≡ Some (point_at z.x z.y)
unfolding decoded point_of
decoded-again p z is =
    let below = is.is_point.y_below in
    rw (encoding-is p z is, low-part z.x z.y below, high-part z.x z.y below, lt-ltb z.y prime below, x-recovered z is.is_point) refl
