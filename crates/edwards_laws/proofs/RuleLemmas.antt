-- What equations of RFC 8032's operations modulo m say as congruences, and back.
use Rattle.std.proofs.Common.{◌≡◌, ◌<◌, ℕ, ◌+◌, ◌*◌, ◌%◌, arith, refl, sym, ◌∙◌}
use Rattle.std.proofs.Math.Nat.{add-mod, mod-mod}
use Rattle.std.proofs.lemmas.Nat.{mod_below}
use Rattle.curve_laws.proofs.DifferenceLemmas.{IsCongruent, IsDifference, alike, difference, equal, fits, itself, product, shifted, sum, then, told}
use Rattle.curve_laws.proofs.FieldLemmas.{add, both-settled, crossed, mul, sub}
use Rattle.group_laws.proofs.FieldLemmas.{some-of}
use Rattle.group_laws.proofs.LineLemmas.{comes-to}
use Rattle.edwards_laws.proofs.SumLemmas.{AreUnder, IsEdwards, IsOn, IsSumOver, f-inverted, g-inverted}

-- d x1 x2 y1 y2
abbrev pub middle : (m d x1 y1 x2 y2 : ℕ) → ℕ
middle m d x1 y1 x2 y2 = mul m d (mul m (mul m x1 x2) (mul m y1 y2))

-- as a number modulo m
middle-is : (m d x1 y1 x2 y2 : ℕ) → 0 < m
    → IsDifference m (middle m d x1 y1 x2 y2) (d * x1 * x2 * y1 * y2) 0
middle-is m d x1 y1 x2 y2 some =
    let xs : IsDifference m (mul m x1 x2) (x1 * x2) 0 = told some (product refl (itself m x1) (itself m x2)) (omega arith) in
    let ys : IsDifference m (mul m y1 y2) (y1 * y2) 0 = told some (product refl (itself m y1) (itself m y2)) (omega arith) in
    let both : IsDifference m (mul m (mul m x1 x2) (mul m y1 y2)) (x1 * x2 * y1 * y2) 0 = told some (product refl xs ys) (omega arith) in
    told some (product refl (itself m d) both) (omega arith)

-- 1 - d x1 x2 y1 y2 stands under y, and 1 + d x1 x2 y1 y2 under x
pub are-under : (m d x1 y1 x2 y2 : ℕ) → 0 < m
    → AreUnder m d x1 y1 x2 y2 (sub m 1 (middle m d x1 y1 x2 y2)) (add m 1 (middle m d x1 y1 x2 y2))
are-under m d x1 y1 x2 y2 some =
    let w = middle-is m d x1 y1 x2 y2 some in
    let less : IsDifference m (sub m 1 (middle m d x1 y1 x2 y2)) 1 (d * x1 * x2 * y1 * y2) = told some (difference (fits some _ refl) refl (itself m 1) w) (omega arith) in
    let more : IsDifference m (add m 1 (middle m d x1 y1 x2 y2)) (1 + d * x1 * x2 * y1 * y2) 0 = told some (sum refl (itself m 1) w) (omega arith) in
    record { f_is = less.is; g_is = then (equal m _ _ (nothing-more _)) more.is }
  where
    nothing-more : (v : ℕ) → v ≡ v + 0
    nothing-more v = omega arith

-- ---- the curve's equation

-- x x
squared : (m x : ℕ) → 0 < m → IsDifference m (mul m x x) (x * x) 0
squared m x some = told some (product refl (itself m x) (itself m x)) (omega arith)

-- y y - x x
left-is : (m x y : ℕ) → 0 < m → IsDifference m (sub m (mul m y y) (mul m x x)) (y * y) (x * x)
left-is m x y some = told some (difference (fits some (x * x) refl) refl (squared m y some) (squared m x some)) (omega arith)

-- 1 + d x x y y
right-is : (m d x y : ℕ) → 0 < m
    → IsDifference m (add m 1 (mul m d (mul m (mul m x x) (mul m y y)))) (1 + d * x * x * y * y) 0
right-is m d x y some = told some (sum refl (itself m 1) (middle-is m d x y x y some)) (omega arith)

-- the curve's equation as a congruence
pub equation-of : (m d x y : ℕ) → 0 < m
    → sub m (mul m y y) (mul m x x) ≡ add m 1 (mul m d (mul m (mul m x x) (mul m y y)))
    → IsCongruent m (y * y) (x * x + 1 + d * x * x * y * y)
equation-of m d x y some is =
    then (equal m (y * y) (y * y + 0) (omega arith))
    (then (crossed is (left-is m x y some) (right-is m d x y some))
    (equal m (1 + d * x * x * y * y + x * x) (x * x + 1 + d * x * x * y * y) (omega arith)))

-- and back
pub equation-to : (m d x y : ℕ) → 0 < m → IsCongruent m (y * y) (x * x + 1 + d * x * x * y * y)
    → sub m (mul m y y) (mul m x x) ≡ add m 1 (mul m d (mul m (mul m x x) (mul m y y)))
equation-to m d x y some is =
    both-settled m (sub m (mul m y y) (mul m x x)) (add m 1 (mul m d (mul m (mul m x x) (mul m y y))))
    (sym (mod-mod _ m)) (sym (mod-mod _ m))
    (alike some (told some (shifted 0 1 is (left-is m x y some)) (omega arith)) (right-is m d x y some))

-- ---- the sum's equations

-- a product that is a sum of two products
pub product-of : (m a v b c e f : ℕ) → mul m a v ≡ add m (mul m b c) (mul m e f)
    → IsCongruent m (a * v) (b * c + e * f)
product-of m a v b c e f is = record { is = is ∙ sym (add-mod (b * c) (e * f) m) }

-- and back
pub product-to : (m a v b c e f : ℕ) → IsCongruent m (a * v) (b * c + e * f)
    → mul m a v ≡ add m (mul m b c) (mul m e f)
product-to m a v b c e f is = is.is ∙ add-mod (b * c) (e * f) m

-- e / v times v is e: i is 1 / v
fraction : (m e v i : ℕ) → 0 < m → IsCongruent m (i * v) 1 → IsCongruent m ((e * i) % m * v) e
fraction m e v i some i_is =
    let remainder : IsCongruent m ((e * i) % m) (e * i) = record { is = mod-mod (e * i) m } in
    comes-to some (shifted 0 e i_is (shifted 0 v remainder (itself m ((e * i) % m * v)))) e (omega arith)

-- numbers that are the sum
pub record HasSumOver (m d x1 y1 x2 y2 f g : ℕ) : Type 0 where
  pub x3 : ℕ
  pub y3 : ℕ
  pub is : IsSumOver m d x1 y1 x2 y2 f g x3 y3

-- any two points have a sum
pub has-sum : (m d x1 y1 x2 y2 f g : ℕ) → IsEdwards m d → IsOn m d x1 y1 → IsOn m d x2 y2
    → AreUnder m d x1 y1 x2 y2 f g → HasSumOver m d x1 y1 x2 y2 f g
has-sum m d x1 y1 x2 y2 f g curve p q under =
    let some = some-of m curve.field.more in
    let i = f-inverted m d x1 y1 x2 y2 f g curve p q under in
    let j = g-inverted m d x1 y1 x2 y2 f g curve p q under in
    record {
      x3 = ((x1 * y2 + y1 * x2) * j.i) % m;
      y3 = ((y1 * y2 + x1 * x2) * i.i) % m;
      is = record {
        under = under;
        x_below = mod_below _ m some;
        y_below = mod_below _ m some;
        x = fraction m (x1 * y2 + y1 * x2) g j.i some j.is;
        y = fraction m (y1 * y2 + x1 * x2) f i.i some i.is;
      };
    }
