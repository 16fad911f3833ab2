-- What equations of the field modulo m say as congruences of natural numbers.
use Rattle.std.proofs.Common.{◌≡◌, ◌<◌, ◌≤◌, ◌-◌, ℕ, ◌+◌, ◌*◌, ◌%◌, arith, ap, refl, sym, ◌∙◌}
use Rattle.std.proofs.Math.Nat.{mod-mod}
use Rattle.curve_laws.proofs.DifferenceLemmas.{IsCongruent, IsDifference, alike, back, difference, equal, fits, itself, product, sum, sum', sums, then, told}

abbrev pub add : ℕ → ℕ → ℕ → ℕ
add m x y = (x + y) % m

abbrev pub sub : ℕ → ℕ → ℕ → ℕ
sub m x y = (x + (m - y)) % m

abbrev pub mul : ℕ → ℕ → ℕ → ℕ
mul m x y = (x * y) % m

-- one number as two differences
pub crossed : {m v w a b c d : ℕ} → v ≡ w → IsDifference m v a b → IsDifference m w c d
    → IsCongruent m (a + d) (c + b)
crossed {m} {v} {w} {a} {b} {c} {d} v_is first second =
    then (sums (back first.is) (equal m d d refl))
    (then (equal m (v + b + d) (w + d + b) (let moved : v + b + d ≡ v + d + b = omega arith in moved ∙ ap (λ k. k + d + b) v_is))
    (sums second.is (equal m b b refl)))

-- the curve's equation
pub on-curve : (m b x y : ℕ) → 0 < m → mul m y y ≡ add m (sub m (mul m (mul m x x) x) (mul m 3 x)) b
    → IsCongruent m (3 * x + y * y) (b + x * x * x)
on-curve m b x y some is =
    let square : IsDifference m (mul m y y) (y * y) 0 = told some (product refl (itself m y) (itself m y)) (omega arith) in
    let power : IsDifference m (mul m x x) (x * x) 0 = told some (product refl (itself m x) (itself m x)) (omega arith) in
    let cube : IsDifference m (mul m (mul m x x) x) (x * x * x) 0 = told some (product refl power (itself m x)) (omega arith) in
    let three : IsDifference m (mul m 3 x) (3 * x) 0 = told some (product refl (itself m 3) (itself m x)) (omega arith) in
    let lower : IsDifference m (sub m (mul m (mul m x x) x) (mul m 3 x)) (x * x * x) (3 * x) = told some (difference (fits some (3 * x) refl) refl cube three) (omega arith) in
    let right : IsDifference m (add m (sub m (mul m (mul m x x) x) (mul m 3 x)) b) (b + x * x * x) (3 * x) = told some (sum refl lower (itself m b)) (omega arith) in
    let both = crossed is square right in
    then (equal m (3 * x + y * y) (y * y + 3 * x) (omega arith)) (then both (equal m (b + x * x * x + 0) (b + x * x * x) (omega arith)))

-- the slope of a chord
pub slope-of-chord : (m s x1 y1 x2 y2 : ℕ) → 0 < m → x1 ≤ m → y1 ≤ m
    → mul m s (sub m x2 x1) ≡ sub m y2 y1
    → IsCongruent m (s * x1 + y2) (s * x2 + y1)
slope-of-chord m s x1 y1 x2 y2 some x1_fits y1_fits is =
    let run : IsDifference m (sub m x2 x1) x2 x1 = told some (difference x1_fits refl (itself m x2) (itself m x1)) (omega arith) in
    let left : IsDifference m (mul m s (sub m x2 x1)) (s * x2) (s * x1) = told some (product refl (itself m s) run) (omega arith) in
    let rise : IsDifference m (sub m y2 y1) y2 y1 = told some (difference y1_fits refl (itself m y2) (itself m y1)) (omega arith) in
    back (then (crossed is left rise) (equal m (y2 + s * x1) (s * x1 + y2) (omega arith)))

-- the inverse of x2 - x1
pub inverse-of-run : (m i x1 x2 : ℕ) → 0 < m → x1 ≤ m → mul m (sub m x2 x1) i ≡ 1
    → IsCongruent m (i * x2) (i * x1 + 1)
inverse-of-run m i x1 x2 some x1_fits is =
    let run : IsDifference m (sub m x2 x1) x2 x1 = told some (difference x1_fits refl (itself m x2) (itself m x1)) (omega arith) in
    let left : IsDifference m (mul m (sub m x2 x1) i) (i * x2) (i * x1) = told some (product refl run (itself m i)) (omega arith) in
    then (equal m (i * x2) (i * x2 + 0) (omega arith)) (then (crossed is left (itself m 1)) (equal m (1 + i * x1) (i * x1 + 1) (omega arith)))

-- the slope of a tangent
pub slope-of-tangent : (m s x y : ℕ) → 0 < m → 3 ≤ m
    → mul m s (mul m 2 y) ≡ sub m (mul m 3 (mul m x x)) 3
    → IsCongruent m (s * y + s * y + 3) (x * x + x * x + x * x)
slope-of-tangent m s x y some three_fits is =
    let twice : IsDifference m (mul m 2 y) (2 * y) 0 = told some (product refl (itself m 2) (itself m y)) (omega arith) in
    let left : IsDifference m (mul m s (mul m 2 y)) (s * y + s * y) 0 = told some (product refl (itself m s) twice) (omega arith) in
    let square : IsDifference m (mul m x x) (x * x) 0 = told some (product refl (itself m x) (itself m x)) (omega arith) in
    let thrice : IsDifference m (mul m 3 (mul m x x)) (x * x + x * x + x * x) 0 = told some (product refl (itself m 3) square) (omega arith) in
    let right : IsDifference m (sub m (mul m 3 (mul m x x)) 3) (x * x + x * x + x * x) 3 = told some (difference three_fits refl thrice (itself m 3)) (omega arith) in
    then (crossed is left right) (equal m (x * x + x * x + x * x + 0) (x * x + x * x + x * x) (omega arith))

-- the third point
pub x-of-third : (m s x1 x2 : ℕ) → 0 < m → x1 ≤ m → x2 ≤ m
    → IsDifference m (sub m (sub m (mul m s s) x1) x2) (s * s) (x1 + x2)
x-of-third m s x1 x2 some x1_fits x2_fits =
    let square : IsDifference m (mul m s s) (s * s) 0 = told some (product refl (itself m s) (itself m s)) (omega arith) in
    let less : IsDifference m (sub m (mul m s s) x1) (s * s) x1 = told some (difference x1_fits refl square (itself m x1)) (omega arith) in
    told some (difference x2_fits refl less (itself m x2)) (omega arith)

pub y-of-third : (m s x1 y1 x2 x3 : ℕ) → 0 < m → x3 ≤ m → y1 ≤ m
    → IsDifference m x3 (s * s) (x1 + x2)
    → IsDifference m (sub m (mul m s (sub m x1 x3)) y1) (s * (2 * x1 + x2)) (s * s * s + y1)
y-of-third m s x1 y1 x2 x3 some x3_fits y1_fits x3_at =
    let run : IsDifference m (sub m x1 x3) (2 * x1 + x2) (s * s) = told some (difference x3_fits refl (itself m x1) x3_at) (omega arith) in
    let drop : IsDifference m (mul m s (sub m x1 x3)) (s * (2 * x1 + x2)) (s * s * s) = told some (product refl (itself m s) run) (omega arith) in
    told some (difference y1_fits refl drop (itself m y1)) (omega arith)

-- a coordinate X that is x Z
pub scaled : (m x z v : ℕ) → 0 < m → v ≡ mul m x z → IsDifference m v (x * z) 0
scaled m x z v some is = told some (product is (itself m x) (itself m z)) (omega arith)

-- a remainder that is congruent to another is the other
pub settled : (m v w : ℕ) → v ≡ v % m → IsCongruent m v (w % m) → v ≡ w % m
settled m v w is congruent = is ∙ congruent.is ∙ mod-mod w m

-- two remainders that are congruent are one
pub both-settled : (m v w : ℕ) → v ≡ v % m → w ≡ w % m → IsCongruent m v w → v ≡ w
both-settled m v w v_is w_is congruent = v_is ∙ congruent.is ∙ sym w_is

-- a coordinate that is 0
pub zero-at : (m v : ℕ) → v ≡ 0 → IsDifference m v 0 0
zero-at m v is = record { is = equal m (v + 0) 0 (omega arith) }

same-remainder : (m v : ℕ) → IsCongruent m (v % m) v
same-remainder m v = record { is = mod-mod v m }

-- - y is the opposite of y
pub opposite : (m y : ℕ) → 0 < m → y ≤ m → IsCongruent m (y + sub m 0 y) 0
opposite m y some y_fits =
    let least : IsDifference m (sub m 0 y) 0 y = told some (difference y_fits refl (itself m 0) (itself m y)) (omega arith) in
    alike some (told some (sum' (itself m y) least) (omega arith)) (itself m 0)

-- and back: the curve's equation of two numbers that are congruent to a point's
pub onto-curve : (m b x y : ℕ) → 0 < m → IsCongruent m (y * y + 3 * x) (x * x * x + b)
    → mul m y y ≡ add m (sub m (mul m (mul m x x) x) (mul m 3 x)) b
onto-curve m b x y some is =
    let power : IsDifference m (mul m x x) (x * x) 0 = told some (product refl (itself m x) (itself m x)) (omega arith) in
    let cube : IsDifference m (mul m (mul m x x) x) (x * x * x) 0 = told some (product refl power (itself m x)) (omega arith) in
    let three : IsDifference m (mul m 3 x) (3 * x) 0 = told some (product refl (itself m 3) (itself m x)) (omega arith) in
    let lower : IsDifference m (sub m (mul m (mul m x x) x) (mul m 3 x)) (x * x * x) (3 * x) = told some (difference (fits some (3 * x) refl) refl cube three) (omega arith) in
    let right : IsDifference m (add m (sub m (mul m (mul m x x) x) (mul m 3 x)) b) (x * x * x + b) (3 * x) = told some (sum refl lower (itself m b)) (omega arith) in
    let left : IsDifference m (y * y) (x * x * x + b) (3 * x) = record { is = is } in
    both-settled m (mul m y y) (add m (sub m (mul m (mul m x x) x) (mul m 3 x)) b) (sym (mod-mod (y * y) m)) (sym (mod-mod _ m))
    (then (same-remainder m (y * y)) (alike some left right))

-- a slope that is a quotient
pub quotient-at : (m y1 y2 i : ℕ) → 0 < m → y1 ≤ m
    → IsDifference m (mul m (sub m y2 y1) i) (y2 * i) (y1 * i)
quotient-at m y1 y2 i some y1_fits =
    let rise : IsDifference m (sub m y2 y1) y2 y1 = told some (difference y1_fits refl (itself m y2) (itself m y1)) (omega arith) in
    told some (product refl rise (itself m i)) (omega arith)

pub run-at : (m x1 x2 : ℕ) → 0 < m → x1 ≤ m → IsDifference m (sub m x2 x1) x2 x1
run-at m x1 x2 some x1_fits = told some (difference x1_fits refl (itself m x2) (itself m x1)) (omega arith)
