-- Numbers that have an inverse modulo m, and so aren't 0.
use Rattle.std.proofs.Common.{◌≡◌, ◌≢◌, ◌<◌, ◌≤◌, ℕ, zero, suc, ◌+◌, ◌*◌, ◌%◌, arith, ap, refl, sym, ◌∙◌}
use Rattle.std.proofs.Math.Nat.{mod-eq_of_lt, mod-mod, zero-mod}
use Rattle.std.proofs.lemmas.Nat.{mul-mod_first, mul-mod_second}
use Rattle.curve_laws.proofs.DifferenceLemmas.{IsCongruent, IsDifference, alike, difference, equal, itself, product, product', products, shifted, sum', then, told}
use Rattle.curve_laws.proofs.FieldLemmas.{both-settled, mul, run-at, sub}

pub record IsUnit (m v : ℕ) : Type 0 where
  pub inverse : ℕ
  pub is : IsCongruent m (v * inverse) 1

-- an inverse in the field
pub unit-of : (m v i : ℕ) → 1 < m → mul m v i ≡ 1 → IsUnit m v
unit-of m v i more is = record { inverse = i; is = record { is = is ∙ sym (mod-eq_of_lt more) } }

pub unit-alike : (m v w : ℕ) → IsCongruent m w v → IsUnit m v → IsUnit m w
unit-alike m v w w_is unit =
    record { inverse = unit.inverse; is = then (products w_is (equal m unit.inverse unit.inverse refl)) unit.is }

paired : (v w i j : ℕ) → v * w * (i * j) ≡ v * i * (w * j)
paired v w i j = omega arith

pub unit-product : (m v w : ℕ) → IsUnit m v → IsUnit m w → IsUnit m (v * w)
unit-product m v w first second =
    record {
      inverse = first.inverse * second.inverse;
      is = then (equal m (v * w * (first.inverse * second.inverse)) (v * first.inverse * (w * second.inverse)) (paired v w first.inverse second.inverse))
          (then (products first.is second.is) (equal m (1 * 1) 1 refl));
    }

-- it isn't 0
contradictory : (n : ℕ) → n ≡ 0 → n ≡ 1 → 0 < 0
contradictory n none one = omega arith

zero-times : (n : ℕ) → 0 ≡ 0 * n
zero-times n = omega arith

plus-zero : (n : ℕ) → n ≡ 0 + n
plus-zero n = omega arith

pub unit-some : (m v : ℕ) → 1 < m → IsUnit m v → 0 < v
unit-some m zero more unit =
    contradictory (0 % m) (zero-mod m) (ap (λ k. k % m) (zero-times unit.inverse) ∙ unit.is.is ∙ mod-eq_of_lt more)
unit-some m (suc v) more unit = omega arith

-- numbers below m that differ have a difference
pub apart : (m x1 x2 : ℕ) → 0 < m → x1 < m → x2 < m → x1 ≢ x2 → (d : ℕ) → d ≡ sub m x2 x1 → 0 < d
apart m x1 x2 some first second differ zero is =
    let fits : x1 ≤ m = omega arith in
    let at : IsDifference m 0 x2 x1 = told some (difference fits is (itself m x2) (itself m x1)) (omega arith) in
    absurd (differ (sym (mod-eq_of_lt first) ∙ ap (λ k. k % m) (plus-zero x1) ∙ at.is.is ∙ mod-eq_of_lt second))
apart m x1 x2 some first second differ (suc d) is = omega arith

-- the slope of the line through two points whose x differ
pub slope-between : (m x1 y1 x2 y2 i t : ℕ) → 0 < m → IsCongruent m (i * x2) (i * x1 + 1)
    → IsDifference m t (y2 * i) (y1 * i)
    → IsCongruent m (t * x1 + y2) (t * x2 + y1)
slope-between m x1 y1 x2 y2 i t some i_is t_at =
    let right : IsDifference m (t * x2 + y1) (y2 * i * x2 + y1) (y1 * i * x2) = told some (sum' (product' t_at (itself m x2)) (itself m y1)) (omega arith) in
    alike some (told some (shifted y2 y1 i_is (sum' (product' t_at (itself m x1)) (itself m y2))) (omega arith)) right

-- with the opposite of the second point
pub slope-opposite : (m x1 y1 x2 y2 w t : ℕ) → 0 < m → IsCongruent m (y2 + w) 0
    → IsCongruent m (t * x1 + w) (t * x2 + y1)
    → IsCongruent m (t * x2 + y1 + y2) (t * x1)
slope-opposite m x1 y1 x2 y2 w t some w_is t_is =
    alike some (told some (shifted 1 0 t_is (shifted 0 1 w_is (itself m (t * x2 + y1 + y2)))) (omega arith)) (itself m (t * x1))

-- the opposite of a point of the curve is on it
pub curve-opposite : (m b x y w : ℕ) → 0 < m → IsCongruent m (y + w) 0
    → IsCongruent m (3 * x + y * y) (b + x * x * x)
    → IsCongruent m (3 * x + w * w) (b + x * x * x)
curve-opposite m b x y w some w_is e =
    alike some (told some (shifted y w w_is (shifted 0 1 e (itself m (3 * x + w * w)))) (omega arith)) (itself m (b + x * x * x))

-- the slope of a tangent, by the inverse of 2 y
pub tangent-at : (m x y i t : ℕ) → 0 < m → IsCongruent m (2 * y * i) 1
    → IsDifference m t (3 * x * x * i) (3 * i)
    → IsCongruent m (2 * t * y + 3) (3 * x * x)
tangent-at m x y i t some i_is t_at =
    let twice : IsDifference m (2 * t * y + 3) (6 * x * x * i * y + 3) (6 * i * y) = told some (sum' (product' (product' (itself m 2) t_at) (itself m y)) (itself m 3)) (omega arith) in
    alike some (told some (shifted 3 (3 * x * x) i_is twice) (omega arith)) (itself m (3 * x * x))

-- ---- slopes that are quotients

-- a chord's
pub chord-of : (m x1 y1 x2 y2 i t : ℕ) → 0 < m → x1 ≤ m → y1 ≤ m
    → IsCongruent m (i * x2) (i * x1 + 1)
    → IsDifference m t (y2 * i) (y1 * i) → mul m t (sub m x2 x1) ≡ sub m y2 y1
chord-of m x1 y1 x2 y2 i t some x1_fits y1_fits i_is t_at =
    both-settled m (mul m t (sub m x2 x1)) (sub m y2 y1) (sym (mod-mod _ m)) (sym (mod-mod _ m))
    (alike some (told some (shifted y1 y2 i_is (product refl t_at (run-at m x1 x2 some x1_fits))) (omega arith)) (run-at m y1 y2 some y1_fits))

-- a tangent's
pub tangent-of : (m x y i t : ℕ) → 0 < m → 3 ≤ m → IsCongruent m (2 * y * i) 1
    → IsDifference m t (3 * x * x * i) (3 * i) → mul m t (mul m 2 y) ≡ sub m (mul m 3 (mul m x x)) 3
tangent-of m x y i t some three_fits i_is t_at =
    let twice : IsDifference m (mul m 2 y) (2 * y) 0 = told some (product refl (itself m 2) (itself m y)) (omega arith) in
    let square : IsDifference m (mul m x x) (x * x) 0 = told some (product refl (itself m x) (itself m x)) (omega arith) in
    let thrice : IsDifference m (mul m 3 (mul m x x)) (3 * x * x) 0 = told some (product refl (itself m 3) square) (omega arith) in
    let right : IsDifference m (sub m (mul m 3 (mul m x x)) 3) (3 * x * x) 3 = told some (difference three_fits refl thrice (itself m 3)) (omega arith) in
    both-settled m (mul m t (mul m 2 y)) (sub m (mul m 3 (mul m x x)) 3) (sym (mod-mod _ m)) (sym (mod-mod _ m))
    (alike some (told some (shifted 3 (3 * x * x) i_is (product refl t_at twice)) (omega arith)) right)

-- points with one x, whose y differ, are opposites
pub must-be-opposite : (m b x y1 y2 j : ℕ) → 0 < m → y1 ≤ m → y2 < m
    → IsCongruent m (3 * x + y1 * y1) (b + x * x * x)
    → IsCongruent m (3 * x + y2 * y2) (b + x * x * x)
    → IsCongruent m (j * y2) (j * y1 + 1) → y2 ≡ sub m 0 y1
must-be-opposite m b x y1 y2 j some y1_fits y2_below e1 e2 j_is =
    let whole : IsDifference m (y1 + y2) 0 0 =
    told some (shifted j 0 e1 (shifted 0 j e2 (shifted (y1 + y2) 0 j_is (itself m (y1 + y2))))) (omega arith) in
    let at : IsDifference m y2 0 y1 = record { is = then (equal m (y2 + y1) (y1 + y2 + 0) (omega arith)) whole.is } in
    both-settled m y2 (sub m 0 y1) (sym (mod-eq_of_lt y2_below)) (sym (mod-mod _ m)) (alike some at (run-at m y1 0 some y1_fits))

-- ---- quotients

times-one : (x : ℕ) → x * 1 ≡ x
times-one x = omega arith

-- (x z) / z is x
pub quotient-is : (m x z i v : ℕ) → v ≡ mul m x z → mul m z i ≡ 1 → x < m → mul m v i ≡ x
quotient-is m x z i v v_is i_is below =
    let moved : x * z * i ≡ x * (z * i) = omega arith in
    ap (λ k. (k * i) % m) v_is ∙ mul-mod_first (x * z) i m ∙ ap (λ k. k % m) moved ∙ sym (mul-mod_second x (z * i) m)
    ∙ ap (λ k. (x * k) % m) i_is ∙ ap (λ k. k % m) (times-one x) ∙ mod-eq_of_lt below
