-- Sums on - x ^ 2 + y ^ 2 = 1 + d x ^ 2 y ^ 2 modulo m associate: the fractions that both orders make are one, crosswise.
use Rattle.std.proofs.Common.{◌≡◌, ℕ, ◌*◌, arith, refl}
use Rattle.curve_laws.proofs.DifferenceLemmas.{equal, products, then}
use Rattle.group_laws.proofs.FieldLemmas.{settle, some-of}
use Rattle.edwards_laws.proofs.CrossXLemmas.{cross-x}
use Rattle.edwards_laws.proofs.CrossYLemmas.{cross-y}
use Rattle.edwards_laws.proofs.FractionLemmas.{one-fraction, under-x, under-y, whole-x, whole-y}
use Rattle.edwards_laws.proofs.SumLemmas.{IsEdwards, IsInverted, IsOn, IsSumOver, f-inverted, g-inverted, sum-on}

-- the inverse of a product of three
inverse-of-three : (m a b c : ℕ) → IsInverted m a → IsInverted m b → IsInverted m c → IsInverted m (a * b * c)
inverse-of-three m a b c a_is b_is c_is =
    record {
      i = a_is.i * b_is.i * c_is.i;
      is = then (equal m (a_is.i * b_is.i * c_is.i * (a * b * c)) (a_is.i * a * (b_is.i * b) * (c_is.i * c)) (omega arith))
          (then (products (products a_is.is b_is.is) c_is.is) (equal m (1 * 1 * 1) 1 refl));
    }

-- (P + Q) + R is (R + Q) + P, where u and v stand under y and x of the one, and o and n under those of the other
pub swap : (m d x1 y1 x2 y2 x3 y3 f g xs ys k l xt yt v u xl yl o n xr yr : ℕ) → IsEdwards m d
    → IsOn m d x1 y1 → IsOn m d x2 y2 → IsOn m d x3 y3
    → IsSumOver m d x1 y1 x2 y2 f g xs ys → IsSumOver m d x3 y3 x2 y2 k l xt yt
    → IsSumOver m d xs ys x3 y3 v u xl yl → IsSumOver m d xt yt x1 y1 o n xr yr
    → (xl ≡ xr) × (yl ≡ yr)
swap m d x1 y1 x2 y2 x3 y3 f g xs ys k l xt yt v u xl yl o n xr yr curve p q r s t left right =
    let some = some-of m curve.field.more in
    let s_on = sum-on m d x1 y1 x2 y2 f g xs ys curve p q s in
    let t_on = sum-on m d x3 y3 x2 y2 k l xt yt curve r q t in
    let f_inv = f-inverted m d x1 y1 x2 y2 f g curve p q s.under in
    let g_inv = g-inverted m d x1 y1 x2 y2 f g curve p q s.under in
    let k_inv = f-inverted m d x3 y3 x2 y2 k l curve r q t.under in
    let l_inv = g-inverted m d x3 y3 x2 y2 k l curve r q t.under in
    let left_x = inverse-of-three m f g u f_inv g_inv (g-inverted m d xs ys x3 y3 v u curve s_on r left.under) in
    let left_y = inverse-of-three m f g v f_inv g_inv (f-inverted m d xs ys x3 y3 v u curve s_on r left.under) in
    let right_x = inverse-of-three m k l n k_inv l_inv (g-inverted m d xt yt x1 y1 o n curve t_on p right.under) in
    let right_y = inverse-of-three m k l o k_inv l_inv (f-inverted m d xt yt x1 y1 o n curve t_on p right.under) in (
      settle m xl xr left.x_below right.x_below
          (one-fraction m xl (f * g * u) _ _ left_x.i xr (k * l * n) _ _ right_x.i some
          (whole-x m x1 y1 x2 y2 x3 y3 f g xs ys u xl some s.x s.y left.x)
          (under-x m x1 y1 x2 y2 x3 y3 d f g xs ys u some s.x s.y left.under.g_is) left_x.is
          (whole-x m x3 y3 x2 y2 x1 y1 k l xt yt n xr some t.x t.y right.x)
          (under-x m x3 y3 x2 y2 x1 y1 d k l xt yt n some t.x t.y right.under.g_is) right_x.is
          (cross-x m x1 y1 x2 y2 x3 y3 d f g k l some s.under.f_is s.under.g_is t.under.f_is t.under.g_is p.on q.on r.on)),
      settle m yl yr left.y_below right.y_below
          (one-fraction m yl (f * g * v) _ (f * g * v) left_y.i yr (k * l * o) _ (k * l * o) right_y.i some
          (whole-y m x1 y1 x2 y2 x3 y3 f g xs ys v yl some s.x s.y left.y)
          (equal m (f * g * v) (f * g * v) refl) left_y.is
          (whole-y m x3 y3 x2 y2 x1 y1 k l xt yt o yr some t.x t.y right.y)
          (equal m (k * l * o) (k * l * o) refl) right_y.is
          (cross-y m x1 y1 x2 y2 x3 y3 d f g k l (f * g * v) (k * l * o) some
          (under-y m x1 y1 x2 y2 x3 y3 d f g xs ys v some s.x s.y left.under.f_is)
          (under-y m x3 y3 x2 y2 x1 y1 d k l xt yt o some t.x t.y right.under.f_is)
          s.under.f_is s.under.g_is t.under.f_is t.under.g_is p.on q.on r.on)),
    )
