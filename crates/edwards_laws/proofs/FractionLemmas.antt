-- Fractions of a sum on - x ^ 2 + y ^ 2 = 1 + d x ^ 2 y ^ 2 modulo m, and why no denominator is 0. Under y of a sum stands
-- f = 1 - d x1 x2 y1 y2, under x g = 1 + d x1 x2 y1 y2; E is x1 y2 + y1 x2, and H is y1 y2 + x1 x2.
use Rattle.std.proofs.Common.{◌<◌, ℕ, ◌+◌, ◌*◌, arith}
use Rattle.curve_laws.proofs.DifferenceLemmas.{IsCongruent, itself, shifted}
use Rattle.group_laws.proofs.LineLemmas.{comes-to}

-- x of (P + Q) + R, where u stands under it: both fractions over one denominator
pub whole-x : (m x1 y1 x2 y2 x3 y3 f g xs ys u x : ℕ) → 0 < m
    → IsCongruent m (xs * g) (x1 * y2 + y1 * x2)
    → IsCongruent m (ys * f) (y1 * y2 + x1 * x2)
    → IsCongruent m (x * u) (xs * y3 + ys * x3)
    → IsCongruent m (x * (f * g * u)) ((x1 * y2 + y1 * x2) * f * y3 + (y1 * y2 + x1 * x2) * g * x3)
whole-x m x1 y1 x2 y2 x3 y3 f g xs ys u x some s_x s_y l_x =
    comes-to some
    (shifted (0) (f * g) l_x
    (shifted (0) (x3 * g) s_y
    (shifted (0) (y3 * f) s_x
    (itself m (x * (f * g * u))))))
    ((x1 * y2 + y1 * x2) * f * y3 + (y1 * y2 + x1 * x2) * g * x3) (omega arith)

-- and y, where v stands under it
pub whole-y : (m x1 y1 x2 y2 x3 y3 f g xs ys v y : ℕ) → 0 < m
    → IsCongruent m (xs * g) (x1 * y2 + y1 * x2)
    → IsCongruent m (ys * f) (y1 * y2 + x1 * x2)
    → IsCongruent m (y * v) (ys * y3 + xs * x3)
    → IsCongruent m (y * (f * g * v)) ((y1 * y2 + x1 * x2) * g * y3 + (x1 * y2 + y1 * x2) * f * x3)
whole-y m x1 y1 x2 y2 x3 y3 f g xs ys v y some s_x s_y l_y =
    comes-to some
    (shifted (0) (f * g) l_y
    (shifted (0) (y3 * g) s_y
    (shifted (0) (x3 * f) s_x
    (itself m (y * (f * g * v))))))
    ((y1 * y2 + x1 * x2) * g * y3 + (x1 * y2 + y1 * x2) * f * x3) (omega arith)

-- the denominator under x, times f g, by P, Q and R
pub under-x : (m x1 y1 x2 y2 x3 y3 d f g xs ys u : ℕ) → 0 < m
    → IsCongruent m (xs * g) (x1 * y2 + y1 * x2)
    → IsCongruent m (ys * f) (y1 * y2 + x1 * x2)
    → IsCongruent m u (1 + d * xs * x3 * ys * y3)
    → IsCongruent m (f * g * u) (f * g + d * (x1 * y2 + y1 * x2) * (y1 * y2 + x1 * x2) * x3 * y3)
under-x m x1 y1 x2 y2 x3 y3 d f g xs ys u some s_x s_y u_is =
    comes-to some
    (shifted (0) (f * g) u_is
    (shifted (0) (x1 * y2 * x3 * y3 * d + y1 * x2 * x3 * y3 * d) s_y
    (shifted (0) (x3 * y3 * d * f * ys) s_x
    (itself m (f * g * u)))))
    (f * g + d * (x1 * y2 + y1 * x2) * (y1 * y2 + x1 * x2) * x3 * y3) (omega arith)

-- and that under y
pub under-y : (m x1 y1 x2 y2 x3 y3 d f g xs ys v : ℕ) → 0 < m
    → IsCongruent m (xs * g) (x1 * y2 + y1 * x2)
    → IsCongruent m (ys * f) (y1 * y2 + x1 * x2)
    → IsCongruent m (v + d * xs * x3 * ys * y3) 1
    → IsCongruent m (f * g * v + d * (x1 * y2 + y1 * x2) * (y1 * y2 + x1 * x2) * x3 * y3) (f * g)
under-y m x1 y1 x2 y2 x3 y3 d f g xs ys v some s_x s_y v_is =
    comes-to some
    (shifted (0) (f * g) v_is
    (shifted (x1 * y2 * x3 * y3 * d + y1 * x2 * x3 * y3 * d) (0) s_y
    (shifted (x3 * y3 * d * f * ys) (0) s_x
    (itself m (f * g * v + d * (x1 * y2 + y1 * x2) * (y1 * y2 + x1 * x2) * x3 * y3)))))
    (f * g) (omega arith)

-- fractions that are one crosswise are one: i and j are 1 / p and 1 / o
pub one-fraction : (m x p a b i y o c e j : ℕ) → 0 < m
    → IsCongruent m (x * p) a
    → IsCongruent m p b
    → IsCongruent m (i * p) 1
    → IsCongruent m (y * o) c
    → IsCongruent m o e
    → IsCongruent m (j * o) 1
    → IsCongruent m (a * e) (c * b)
    → IsCongruent m x y
one-fraction m x p a b i y o c e j some x_is p_is i_is y_is o_is j_is crossed =
    comes-to some
    (shifted (0) (i * j) crossed
    (shifted (x) (y) j_is
    (shifted (0) (x * j) o_is
    (shifted (j) (0) y_is
    (shifted (x * e * j) (c * j) i_is
    (shifted (i * c * j) (0) p_is
    (shifted (0) (i * e * j) x_is
    (itself m (x)))))))))
    (y) (omega arith)

-- what is on the curve times f g is on it: i and j are 1 / f and 1 / g
pub fraction-on-curve : (m d f g x y e h i j : ℕ) → 0 < m
    → IsCongruent m (x * g) e
    → IsCongruent m (y * f) h
    → IsCongruent m (i * f) 1
    → IsCongruent m (j * g) 1
    → IsCongruent m (h * h * g * g) (e * e * f * f + f * f * g * g + d * e * e * h * h)
    → IsCongruent m (y * y) (x * x + 1 + d * x * x * y * y)
fraction-on-curve m d f g x y e h i j some x_is y_is i_is j_is on =
    comes-to some
    (shifted (0) (i * i * j * j) on
    (shifted (g * h * h * i * i * j + h * h * i * i) (d * x * x * y * y + d * x * y * y * e * j + f * f * g * i * i * j + f * f * i * i + x * x + x * e * j) j_is
    (shifted (y * y + y * h * i) (d * y * y * e * e * j * j + d * y * e * e * h * i * j * j + f * e * e * i * j * j + f * i + e * e * j * j + 1) i_is
    (shifted (d * y * e * e * i * j * j + d * e * e * h * i * i * j * j) (y * i + h * i * i) y_is
    (shifted (d * x * y * y * j + d * y * y * e * j * j + x * j + e * j * j) (0) x_is
    (itself m (y * y)))))))
    (x * x + 1 + d * x * x * y * y) (omega arith)

-- where w = d x1 x2 y1 y2 has the square 1, d times a square is a square
pub d-is-square : (m x1 y1 x2 y2 d i w : ℕ) → 0 < m
    → IsCongruent m (y1 * y1) (x1 * x1 + 1 + d * x1 * x1 * y1 * y1)
    → IsCongruent m (y2 * y2) (x2 * x2 + 1 + d * x2 * x2 * y2 * y2)
    → IsCongruent m w (d * x1 * x2 * y1 * y2)
    → IsCongruent m (w * w) 1
    → IsCongruent m (i * i + 1) 0
    → IsCongruent m (d * x1 * x1 * y1 * y1 * (y2 + i * x2) * (y2 + i * x2)) ((y1 + i * w * x1) * (y1 + i * w * x1))
d-is-square m x1 y1 x2 y2 d i w some e1 e2 w_is w_one i_is =
    comes-to some
    (shifted (x1 * x1) (x1 * x1 * y1 * y1 * x2 * x2 * d) i_is
    (shifted (x1 * x1 * i * i) (1) w_one
    (shifted (x1 * y1 * x2 * y2 * d + 2 * x1 * y1 * i + w) (0) w_is
    (shifted (x1 * x1 + 1) (y1 * y1) e2
    (shifted (y2 * y2) (x2 * x2 * y2 * y2 * d + x2 * x2) e1
    (itself m (d * x1 * x1 * y1 * y1 * (y2 + i * x2) * (y2 + i * x2))))))))
    ((y1 + i * w * x1) * (y1 + i * w * x1)) (omega arith)

-- and so is d: k is the inverse of what is squared
pub root-of-d : (m x1 y1 x2 y2 d i k r : ℕ) → 0 < m
    → IsCongruent m (d * x1 * x1 * y1 * y1 * (y2 + i * x2) * (y2 + i * x2)) (r * r)
    → IsCongruent m (k * (x1 * y1 * (y2 + i * x2))) 1
    → IsCongruent m (r * k * (r * k)) d
root-of-d m x1 y1 x2 y2 d i k r some is k_is =
    comes-to some
    (shifted (0) (x1 * y1 * x2 * d * i * k + x1 * y1 * y2 * d * k + d) k_is
    (shifted (k * k) (0) is
    (itself m (r * k * (r * k)))))
    (d) (omega arith)

-- not both of these are 0, where j is - i: h is 1 / 2
pub both-none : (m x1 y1 x2 y2 d i j w h : ℕ) → 0 < m
    → IsCongruent m (x1 * y1 * (y2 + i * x2)) 0
    → IsCongruent m (x1 * y1 * (y2 + j * x2)) 0
    → IsCongruent m (j + i) 0
    → IsCongruent m (2 * h) 1
    → IsCongruent m w (d * x1 * x2 * y1 * y2)
    → IsCongruent m (w * w) 1
    → IsCongruent m 1 0
both-none m x1 y1 x2 y2 d i j w h some i_none j_none ij h_is w_is w_one =
    comes-to some
    (shifted (1) (0) w_one
    (shifted (0) (w) w_is
    (shifted (x1 * y1 * x2 * y2 * d * w) (0) h_is
    (shifted (x1 * y1 * x2 * x2 * d * w * h) (0) ij
    (shifted (0) (x2 * d * w * h) j_none
    (shifted (0) (x2 * d * w * h) i_none
    (itself m (1))))))))
    (0) (omega arith)

-- - i is a root of - 1 as well
pub other-root : (m i j : ℕ) → 0 < m
    → IsCongruent m (i * i + 1) 0
    → IsCongruent m (j + i) 0
    → IsCongruent m (j * j + 1) 0
other-root m i j some i_is ij =
    comes-to some
    (shifted (i) (j) ij
    (shifted (0) (1) i_is
    (itself m (j * j + 1))))
    (0) (omega arith)

-- where 1 - w is 0, w has the square 1,
pub w-one-by-f : (m w f : ℕ) → 0 < m
    → IsCongruent m (f + w) 1
    → IsCongruent m f 0
    → IsCongruent m (w * w) 1
w-one-by-f m w f some f_is f_none =
    comes-to some
    (shifted (w + 1) (0) f_none
    (shifted (0) (w + 1) f_is
    (itself m (w * w))))
    (1) (omega arith)

-- and where 1 + w is 0
pub w-one-by-g : (m w g : ℕ) → 0 < m
    → IsCongruent m g (1 + w)
    → IsCongruent m g 0
    → IsCongruent m (w * w) 1
w-one-by-g m w g some g_is g_none =
    comes-to some
    (shifted (1) (w) g_none
    (shifted (w) (1) g_is
    (itself m (w * w))))
    (1) (omega arith)
