-- y of (P + Q) + R and of (R + Q) + P, crosswise: f and g stand under y and x of P + Q, k and l under those of R + Q, and q and
-- r under both sums' y, times f g and k l.
use Rattle.std.proofs.Common.{◌<◌, ℕ, ◌+◌, ◌*◌, refl, [], ◌∷◌}
use Rattle.curve_laws.proofs.DifferenceLemmas.{IsCongruent}
use Rattle.edwards_laws.proofs.CongruenceLemmas.{by-steps}
use Rattle.edwards_laws.proofs.PolynomialLemmas.{Expr, lit, var, ◌⊕◌, ◌⊗◌}

-- ---- the variables

abbrev X1 : Expr
X1 = var 0

abbrev Y1 : Expr
Y1 = var 1

abbrev X2 : Expr
X2 = var 2

abbrev Y2 : Expr
Y2 = var 3

abbrev X3 : Expr
X3 = var 4

abbrev Y3 : Expr
Y3 = var 5

abbrev D : Expr
D = var 6

abbrev F : Expr
F = var 7

abbrev G : Expr
G = var 8

abbrev K : Expr
K = var 9

abbrev L : Expr
L = var 10

abbrev Q : Expr
Q = var 11

abbrev R : Expr
R = var 12

-- ---- the identity

-- numerator by denominator, with the other sum
pub cross-y : (m x1 y1 x2 y2 x3 y3 d f g k l q r : ℕ) → 0 < m
    → IsCongruent m (q + d * (x1 * y2 + y1 * x2) * (y1 * y2 + x1 * x2) * x3 * y3) (f * g)
    → IsCongruent m (r + d * (x3 * y2 + y3 * x2) * (y3 * y2 + x3 * x2) * x1 * y1) (k * l)
    → IsCongruent m (f + d * x1 * x2 * y1 * y2) (1)
    → IsCongruent m (g) (1 + d * x1 * x2 * y1 * y2)
    → IsCongruent m (k + d * x3 * x2 * y3 * y2) (1)
    → IsCongruent m (l) (1 + d * x3 * x2 * y3 * y2)
    → IsCongruent m (y1 * y1) (x1 * x1 + 1 + d * x1 * x1 * y1 * y1)
    → IsCongruent m (y2 * y2) (x2 * x2 + 1 + d * x2 * x2 * y2 * y2)
    → IsCongruent m (y3 * y3) (x3 * x3 + 1 + d * x3 * x3 * y3 * y3)
    → IsCongruent m (((y1 * y2 + x1 * x2) * g * y3 + (x1 * y2 + y1 * x2) * f * x3) * r)
    (((y3 * y2 + x3 * x2) * l * y1 + (x3 * y2 + y3 * x2) * k * x1) * q)
cross-y m x1 y1 x2 y2 x3 y3 d f g k l q r some q_is r_is f_is g_is k_is l_is e1 e2 e3 =
    by-steps m (x1 ∷ y1 ∷ x2 ∷ y2 ∷ x3 ∷ y3 ∷ d ∷ f ∷ g ∷ k ∷ l ∷ q ∷ r ∷ [])
    (record {
      f = X1 ⊗ X2 ⊗ Y3 ⊗ K ⊕ X1 ⊗ Y2 ⊗ X3 ⊗ K ⊕ Y1 ⊗ X2 ⊗ X3 ⊗ L ⊕ Y1 ⊗ Y2 ⊗ Y3 ⊗ L;
      g = lit 0;
      u = Q ⊕ D ⊗ (X1 ⊗ Y2 ⊕ Y1 ⊗ X2) ⊗ (Y1 ⊗ Y2 ⊕ X1 ⊗ X2) ⊗ X3 ⊗ Y3;
      w = F ⊗ G;
    }
    ∷ record {
      f = lit 0;
      g = X1 ⊗ X2 ⊗ Y3 ⊗ G ⊕ X1 ⊗ Y2 ⊗ X3 ⊗ F ⊕ Y1 ⊗ X2 ⊗ X3 ⊗ F ⊕ Y1 ⊗ Y2 ⊗ Y3 ⊗ G;
      u = R ⊕ D ⊗ (X3 ⊗ Y2 ⊕ Y3 ⊗ X2) ⊗ (Y3 ⊗ Y2 ⊕ X3 ⊗ X2) ⊗ X1 ⊗ Y1;
      w = K ⊗ L;
    }
    ∷ record {
      f = X1 ⊗ X1 ⊗ Y1 ⊗ X2 ⊗ X2 ⊗ Y2 ⊗ X3 ⊗ X3 ⊗ Y3 ⊗ D ⊕ X1 ⊗ X1 ⊗ Y1 ⊗ X2 ⊗ Y2 ⊗ Y2 ⊗ X3 ⊗ X3 ⊗ X3 ⊗ D
          ⊕ X1 ⊗ X1 ⊗ Y1 ⊗ X2 ⊗ Y2 ⊗ Y2 ⊗ X3 ⊗ Y3 ⊗ Y3 ⊗ D ⊕ X1 ⊗ X1 ⊗ Y1 ⊗ Y2 ⊗ Y2 ⊗ Y2 ⊗ X3 ⊗ X3 ⊗ Y3 ⊗ D
          ⊕ X1 ⊗ Y1 ⊗ Y1 ⊗ X2 ⊗ X2 ⊗ X2 ⊗ X3 ⊗ X3 ⊗ Y3 ⊗ D ⊕ X1 ⊗ Y1 ⊗ Y1 ⊗ X2 ⊗ X2 ⊗ Y2 ⊗ X3 ⊗ X3 ⊗ X3 ⊗ D
          ⊕ X1 ⊗ Y1 ⊗ Y1 ⊗ X2 ⊗ X2 ⊗ Y2 ⊗ X3 ⊗ Y3 ⊗ Y3 ⊗ D ⊕ X1 ⊗ Y1 ⊗ Y1 ⊗ X2 ⊗ Y2 ⊗ Y2 ⊗ X3 ⊗ X3 ⊗ Y3 ⊗ D
          ⊕ X1 ⊗ X2 ⊗ Y3 ⊗ G ⊗ K ⊕ X1 ⊗ Y2 ⊗ X3 ⊗ G ⊗ K ⊕ Y1 ⊗ X2 ⊗ X3 ⊗ G ⊗ L ⊕ Y1 ⊗ Y2 ⊗ Y3 ⊗ G ⊗ L;
      g = X1 ⊗ Y2 ⊗ X3 ⊗ K ⊗ L ⊕ Y1 ⊗ X2 ⊗ X3 ⊗ K ⊗ L;
      u = F ⊕ D ⊗ X1 ⊗ X2 ⊗ Y1 ⊗ Y2;
      w = lit 1;
    }
    ∷ record {
      f = X1 ⊗ X1 ⊗ Y1 ⊗ X2 ⊗ X2 ⊗ X2 ⊗ X3 ⊗ Y3 ⊗ Y3 ⊗ D ⊕ X1 ⊗ X1 ⊗ Y1 ⊗ X2 ⊗ X2 ⊗ Y2 ⊗ X3 ⊗ X3 ⊗ Y3 ⊗ D
          ⊕ X1 ⊗ X1 ⊗ Y1 ⊗ X2 ⊗ X2 ⊗ Y2 ⊗ Y3 ⊗ Y3 ⊗ Y3 ⊗ D ⊕ X1 ⊗ X1 ⊗ Y1 ⊗ X2 ⊗ Y2 ⊗ Y2 ⊗ X3 ⊗ Y3 ⊗ Y3 ⊗ D
          ⊕ X1 ⊗ Y1 ⊗ Y1 ⊗ X2 ⊗ X2 ⊗ Y2 ⊗ X3 ⊗ Y3 ⊗ Y3 ⊗ D ⊕ X1 ⊗ Y1 ⊗ Y1 ⊗ X2 ⊗ Y2 ⊗ Y2 ⊗ X3 ⊗ X3 ⊗ Y3 ⊗ D
          ⊕ X1 ⊗ Y1 ⊗ Y1 ⊗ X2 ⊗ Y2 ⊗ Y2 ⊗ Y3 ⊗ Y3 ⊗ Y3 ⊗ D ⊕ X1 ⊗ Y1 ⊗ Y1 ⊗ Y2 ⊗ Y2 ⊗ Y2 ⊗ X3 ⊗ Y3 ⊗ Y3 ⊗ D
          ⊕ X1 ⊗ X2 ⊗ Y3 ⊗ K ⊕ X1 ⊗ Y2 ⊗ X3 ⊗ K ⊕ Y1 ⊗ X2 ⊗ X3 ⊗ L ⊕ Y1 ⊗ Y2 ⊗ Y3 ⊗ L;
      g = X1 ⊗ X1 ⊗ Y1 ⊗ X2 ⊗ X2 ⊗ Y2 ⊗ Y3 ⊗ D ⊗ K ⊕ X1 ⊗ X1 ⊗ Y1 ⊗ X2 ⊗ Y2 ⊗ Y2 ⊗ X3 ⊗ D ⊗ K
          ⊕ X1 ⊗ Y1 ⊗ Y1 ⊗ X2 ⊗ X2 ⊗ Y2 ⊗ X3 ⊗ D ⊗ L ⊕ X1 ⊗ Y1 ⊗ Y1 ⊗ X2 ⊗ Y2 ⊗ Y2 ⊗ Y3 ⊗ D ⊗ L
          ⊕ X1 ⊗ X2 ⊗ Y3 ⊗ K ⊗ L ⊕ Y1 ⊗ Y2 ⊗ Y3 ⊗ K ⊗ L;
      u = G;
      w = lit 1 ⊕ D ⊗ X1 ⊗ X2 ⊗ Y1 ⊗ Y2;
    }
    ∷ record {
      f = X1 ⊗ X1 ⊗ Y1 ⊗ X2 ⊗ Y2 ⊗ Y2 ⊗ X3 ⊗ D ⊗ L ⊕ X1 ⊗ Y1 ⊗ Y1 ⊗ X2 ⊗ X2 ⊗ Y2 ⊗ X3 ⊗ D ⊗ L ⊕ X1 ⊗ X2 ⊗ Y3
          ⊕ X1 ⊗ Y2 ⊗ X3;
      g = X1 ⊗ X1 ⊗ X1 ⊗ Y1 ⊗ Y1 ⊗ X2 ⊗ X2 ⊗ X2 ⊗ Y2 ⊗ Y2 ⊗ Y3 ⊗ D ⊗ D
          ⊕ X1 ⊗ X1 ⊗ X1 ⊗ Y1 ⊗ Y1 ⊗ X2 ⊗ X2 ⊗ Y2 ⊗ Y2 ⊗ Y2 ⊗ X3 ⊗ D ⊗ D
          ⊕ X1 ⊗ X1 ⊗ X1 ⊗ X2 ⊗ X2 ⊗ Y2 ⊗ X3 ⊗ Y3 ⊗ Y3 ⊗ D ⊕ X1 ⊗ X1 ⊗ X1 ⊗ X2 ⊗ Y2 ⊗ Y2 ⊗ X3 ⊗ X3 ⊗ Y3 ⊗ D
          ⊕ X1 ⊗ X1 ⊗ Y1 ⊗ X2 ⊗ X2 ⊗ X2 ⊗ X3 ⊗ Y3 ⊗ Y3 ⊗ D ⊕ X1 ⊗ X1 ⊗ Y1 ⊗ X2 ⊗ X2 ⊗ Y2 ⊗ X3 ⊗ X3 ⊗ Y3 ⊗ D
          ⊕ X1 ⊗ X1 ⊗ Y1 ⊗ X2 ⊗ X2 ⊗ Y2 ⊗ Y3 ⊗ D ⊗ L ⊕ X1 ⊗ X1 ⊗ Y1 ⊗ X2 ⊗ Y2 ⊗ Y2 ⊗ X3 ⊗ Y3 ⊗ Y3 ⊗ D
          ⊕ X1 ⊗ X1 ⊗ Y1 ⊗ Y2 ⊗ Y2 ⊗ Y2 ⊗ X3 ⊗ X3 ⊗ Y3 ⊗ D ⊕ X1 ⊗ Y1 ⊗ Y1 ⊗ X2 ⊗ X2 ⊗ Y2 ⊗ X3 ⊗ Y3 ⊗ Y3 ⊗ D
          ⊕ X1 ⊗ Y1 ⊗ Y1 ⊗ X2 ⊗ Y2 ⊗ Y2 ⊗ X3 ⊗ X3 ⊗ Y3 ⊗ D ⊕ X1 ⊗ Y1 ⊗ Y1 ⊗ X2 ⊗ Y2 ⊗ Y2 ⊗ Y3 ⊗ D ⊗ L
          ⊕ X1 ⊗ X2 ⊗ Y3 ⊗ L ⊕ X1 ⊗ Y2 ⊗ X3 ⊗ L ⊕ Y1 ⊗ X2 ⊗ X3 ⊗ L ⊕ Y1 ⊗ Y2 ⊗ Y3 ⊗ L;
      u = K ⊕ D ⊗ X3 ⊗ X2 ⊗ Y3 ⊗ Y2;
      w = lit 1;
    }
    ∷ record {
      f = X1 ⊗ X1 ⊗ Y1 ⊗ X2 ⊗ X2 ⊗ X2 ⊗ Y2 ⊗ Y2 ⊗ X3 ⊗ Y3 ⊗ Y3 ⊗ D ⊗ D ⊕ X1 ⊗ X1 ⊗ Y1 ⊗ X2 ⊗ Y2 ⊗ Y2 ⊗ X3 ⊗ D
          ⊕ X1 ⊗ Y1 ⊗ Y1 ⊗ X2 ⊗ X2 ⊗ Y2 ⊗ Y2 ⊗ Y2 ⊗ X3 ⊗ Y3 ⊗ Y3 ⊗ D ⊗ D
          ⊕ X1 ⊗ Y1 ⊗ Y1 ⊗ X2 ⊗ X2 ⊗ Y2 ⊗ X3 ⊗ D ⊕ X1 ⊗ X2 ⊗ X2 ⊗ Y2 ⊗ X3 ⊗ Y3 ⊗ Y3 ⊗ D
          ⊕ X1 ⊗ X2 ⊗ Y2 ⊗ Y2 ⊗ X3 ⊗ X3 ⊗ Y3 ⊗ D ⊕ Y1 ⊗ X2 ⊗ X2 ⊗ Y2 ⊗ X3 ⊗ X3 ⊗ Y3 ⊗ D
          ⊕ Y1 ⊗ X2 ⊗ Y2 ⊗ Y2 ⊗ X3 ⊗ Y3 ⊗ Y3 ⊗ D;
      g = X1 ⊗ X1 ⊗ Y1 ⊗ Y1 ⊗ Y1 ⊗ X2 ⊗ X2 ⊗ X2 ⊗ Y2 ⊗ Y2 ⊗ X3 ⊗ D ⊗ D
          ⊕ X1 ⊗ X1 ⊗ Y1 ⊗ Y1 ⊗ Y1 ⊗ X2 ⊗ X2 ⊗ Y2 ⊗ Y2 ⊗ Y2 ⊗ Y3 ⊗ D ⊗ D
          ⊕ X1 ⊗ X1 ⊗ Y1 ⊗ X2 ⊗ X2 ⊗ Y2 ⊗ Y2 ⊗ Y2 ⊗ X3 ⊗ X3 ⊗ Y3 ⊗ D ⊗ D
          ⊕ X1 ⊗ X1 ⊗ Y1 ⊗ X2 ⊗ X2 ⊗ Y2 ⊗ X3 ⊗ X3 ⊗ Y3 ⊗ D ⊕ X1 ⊗ X1 ⊗ Y1 ⊗ X2 ⊗ X2 ⊗ Y2 ⊗ Y3 ⊗ D
          ⊕ X1 ⊗ X1 ⊗ Y1 ⊗ X2 ⊗ Y2 ⊗ Y2 ⊗ X3 ⊗ Y3 ⊗ Y3 ⊗ D
          ⊕ X1 ⊗ Y1 ⊗ Y1 ⊗ X2 ⊗ X2 ⊗ X2 ⊗ Y2 ⊗ Y2 ⊗ X3 ⊗ X3 ⊗ Y3 ⊗ D ⊗ D
          ⊕ X1 ⊗ Y1 ⊗ Y1 ⊗ X2 ⊗ X2 ⊗ X2 ⊗ X3 ⊗ X3 ⊗ Y3 ⊗ D ⊕ X1 ⊗ Y1 ⊗ Y1 ⊗ X2 ⊗ X2 ⊗ Y2 ⊗ X3 ⊗ Y3 ⊗ Y3 ⊗ D
          ⊕ X1 ⊗ Y1 ⊗ Y1 ⊗ X2 ⊗ Y2 ⊗ Y2 ⊗ X3 ⊗ X3 ⊗ Y3 ⊗ D ⊕ X1 ⊗ Y1 ⊗ Y1 ⊗ X2 ⊗ Y2 ⊗ Y2 ⊗ Y3 ⊗ D
          ⊕ X1 ⊗ Y1 ⊗ Y1 ⊗ Y2 ⊗ Y2 ⊗ Y2 ⊗ X3 ⊗ Y3 ⊗ Y3 ⊗ D ⊕ X1 ⊗ X2 ⊗ Y3 ⊕ X1 ⊗ Y2 ⊗ X3
          ⊕ Y1 ⊗ Y1 ⊗ Y1 ⊗ X2 ⊗ X2 ⊗ Y2 ⊗ X3 ⊗ X3 ⊗ Y3 ⊗ D ⊕ Y1 ⊗ Y1 ⊗ Y1 ⊗ X2 ⊗ Y2 ⊗ Y2 ⊗ X3 ⊗ Y3 ⊗ Y3 ⊗ D;
      u = L;
      w = lit 1 ⊕ D ⊗ X3 ⊗ X2 ⊗ Y3 ⊗ Y2;
    }
    ∷ record {
      f = X1 ⊗ X2 ⊗ X2 ⊗ X2 ⊗ Y3 ⊗ Y3 ⊗ Y3 ⊕ X1 ⊗ X2 ⊗ X2 ⊗ Y2 ⊗ X3 ⊗ Y3 ⊗ Y3 ⊗ D
          ⊕ X1 ⊗ X2 ⊗ X2 ⊗ Y2 ⊗ X3 ⊗ Y3 ⊗ Y3 ⊕ X1 ⊗ X2 ⊗ Y2 ⊗ Y2 ⊗ X3 ⊗ X3 ⊗ Y3 ⊗ D
          ⊕ X1 ⊗ X2 ⊗ Y2 ⊗ Y2 ⊗ X3 ⊗ X3 ⊗ Y3 ⊕ X1 ⊗ X2 ⊗ Y2 ⊗ Y2 ⊗ Y3 ⊕ X1 ⊗ X2 ⊗ Y3 ⊗ Y3 ⊗ Y3
          ⊕ X1 ⊗ Y2 ⊗ Y2 ⊗ Y2 ⊗ X3 ⊗ X3 ⊗ X3 ⊕ X1 ⊗ Y2 ⊗ Y2 ⊗ Y2 ⊗ X3 ⊕ X1 ⊗ Y2 ⊗ X3 ⊗ Y3 ⊗ Y3
          ⊕ Y1 ⊗ X2 ⊗ X2 ⊗ X2 ⊗ X3 ⊗ Y3 ⊗ Y3 ⊕ Y1 ⊗ X2 ⊗ X2 ⊗ Y2 ⊗ Y3 ⊗ Y3 ⊗ Y3
          ⊕ Y1 ⊗ X2 ⊗ Y2 ⊗ Y2 ⊗ X3 ⊗ X3 ⊗ X3 ⊕ Y1 ⊗ X2 ⊗ Y2 ⊗ Y2 ⊗ X3 ⊕ Y1 ⊗ X2 ⊗ X3 ⊗ Y3 ⊗ Y3
          ⊕ Y1 ⊗ Y2 ⊗ Y2 ⊗ Y2 ⊗ X3 ⊗ X3 ⊗ Y3 ⊕ Y1 ⊗ Y2 ⊗ Y2 ⊗ Y2 ⊗ Y3 ⊕ Y1 ⊗ Y2 ⊗ Y3 ⊗ Y3 ⊗ Y3;
      g = X1 ⊗ X2 ⊗ X2 ⊗ X2 ⊗ X3 ⊗ X3 ⊗ Y3 ⊕ X1 ⊗ X2 ⊗ X2 ⊗ X2 ⊗ Y3 ⊕ X1 ⊗ X2 ⊗ X2 ⊗ Y2 ⊗ X3 ⊗ X3 ⊗ X3
          ⊕ X1 ⊗ X2 ⊗ X2 ⊗ Y2 ⊗ X3 ⊕ X1 ⊗ X2 ⊗ Y2 ⊗ Y2 ⊗ Y3 ⊗ Y3 ⊗ Y3 ⊕ X1 ⊗ X2 ⊗ X3 ⊗ X3 ⊗ Y3 ⊕ X1 ⊗ X2 ⊗ Y3
          ⊕ X1 ⊗ Y2 ⊗ Y2 ⊗ Y2 ⊗ X3 ⊗ Y3 ⊗ Y3 ⊕ X1 ⊗ Y2 ⊗ X3 ⊗ X3 ⊗ X3 ⊕ X1 ⊗ Y2 ⊗ X3
          ⊕ Y1 ⊗ X2 ⊗ X2 ⊗ X2 ⊗ X3 ⊗ X3 ⊗ X3 ⊕ Y1 ⊗ X2 ⊗ X2 ⊗ X2 ⊗ X3 ⊕ Y1 ⊗ X2 ⊗ X2 ⊗ Y2 ⊗ X3 ⊗ X3 ⊗ Y3 ⊗ D
          ⊕ Y1 ⊗ X2 ⊗ X2 ⊗ Y2 ⊗ X3 ⊗ X3 ⊗ Y3 ⊕ Y1 ⊗ X2 ⊗ X2 ⊗ Y2 ⊗ Y3 ⊕ Y1 ⊗ X2 ⊗ Y2 ⊗ Y2 ⊗ X3 ⊗ Y3 ⊗ Y3 ⊗ D
          ⊕ Y1 ⊗ X2 ⊗ Y2 ⊗ Y2 ⊗ X3 ⊗ Y3 ⊗ Y3 ⊕ Y1 ⊗ X2 ⊗ X3 ⊗ X3 ⊗ X3 ⊕ Y1 ⊗ X2 ⊗ X3
          ⊕ Y1 ⊗ Y2 ⊗ Y2 ⊗ Y2 ⊗ Y3 ⊗ Y3 ⊗ Y3 ⊕ Y1 ⊗ Y2 ⊗ X3 ⊗ X3 ⊗ Y3 ⊕ Y1 ⊗ Y2 ⊗ Y3;
      u = Y1 ⊗ Y1;
      w = X1 ⊗ X1 ⊕ lit 1 ⊕ D ⊗ X1 ⊗ X1 ⊗ Y1 ⊗ Y1;
    }
    ∷ record {
      f = X1 ⊗ X1 ⊗ X1 ⊗ Y1 ⊗ Y1 ⊗ X2 ⊗ X3 ⊗ X3 ⊗ Y3 ⊗ D ⊕ X1 ⊗ X1 ⊗ X1 ⊗ Y1 ⊗ Y1 ⊗ X2 ⊗ Y3 ⊗ D
          ⊕ X1 ⊗ X1 ⊗ X1 ⊗ Y1 ⊗ Y1 ⊗ Y2 ⊗ X3 ⊗ X3 ⊗ X3 ⊗ D ⊕ X1 ⊗ X1 ⊗ X1 ⊗ Y1 ⊗ Y1 ⊗ Y2 ⊗ X3 ⊗ D
          ⊕ X1 ⊗ X1 ⊗ X1 ⊗ X2 ⊗ X3 ⊗ X3 ⊗ Y3 ⊕ X1 ⊗ X1 ⊗ X1 ⊗ X2 ⊗ Y3 ⊕ X1 ⊗ X1 ⊗ X1 ⊗ Y2 ⊗ X3 ⊗ X3 ⊗ X3
          ⊕ X1 ⊗ X1 ⊗ X1 ⊗ Y2 ⊗ X3 ⊕ X1 ⊗ X1 ⊗ Y1 ⊗ Y1 ⊗ Y1 ⊗ X2 ⊗ X2 ⊗ Y2 ⊗ X3 ⊗ X3 ⊗ Y3 ⊗ D ⊗ D
          ⊕ X1 ⊗ X1 ⊗ Y1 ⊗ Y1 ⊗ Y1 ⊗ X2 ⊗ Y2 ⊗ Y2 ⊗ X3 ⊗ Y3 ⊗ Y3 ⊗ D ⊗ D
          ⊕ X1 ⊗ X1 ⊗ Y1 ⊗ Y1 ⊗ Y1 ⊗ X2 ⊗ X3 ⊗ X3 ⊗ X3 ⊗ D ⊕ X1 ⊗ X1 ⊗ Y1 ⊗ Y1 ⊗ Y1 ⊗ X2 ⊗ X3 ⊗ D
          ⊕ X1 ⊗ X1 ⊗ Y1 ⊗ Y1 ⊗ Y1 ⊗ Y2 ⊗ X3 ⊗ X3 ⊗ Y3 ⊗ D ⊕ X1 ⊗ X1 ⊗ Y1 ⊗ Y1 ⊗ Y1 ⊗ Y2 ⊗ Y3 ⊗ D
          ⊕ X1 ⊗ X1 ⊗ Y1 ⊗ X2 ⊗ X2 ⊗ Y2 ⊗ X3 ⊗ X3 ⊗ Y3 ⊗ D ⊕ X1 ⊗ X1 ⊗ Y1 ⊗ X2 ⊗ X2 ⊗ Y2 ⊗ Y3 ⊗ D
          ⊕ X1 ⊗ X1 ⊗ Y1 ⊗ X2 ⊗ Y2 ⊗ Y2 ⊗ X3 ⊗ Y3 ⊗ Y3 ⊗ D ⊕ X1 ⊗ X1 ⊗ Y1 ⊗ X2 ⊗ X3 ⊗ X3 ⊗ X3
          ⊕ X1 ⊗ X1 ⊗ Y1 ⊗ X2 ⊗ X3 ⊕ X1 ⊗ X1 ⊗ Y1 ⊗ Y2 ⊗ X3 ⊗ X3 ⊗ Y3 ⊕ X1 ⊗ X1 ⊗ Y1 ⊗ Y2 ⊗ Y3
          ⊕ X1 ⊗ Y1 ⊗ Y1 ⊗ X2 ⊗ X2 ⊗ Y2 ⊗ X3 ⊗ Y3 ⊗ Y3 ⊗ D ⊕ X1 ⊗ Y1 ⊗ Y1 ⊗ X2 ⊗ Y2 ⊗ Y2 ⊗ X3 ⊗ X3 ⊗ Y3 ⊗ D
          ⊕ X1 ⊗ Y1 ⊗ Y1 ⊗ X2 ⊗ Y2 ⊗ Y2 ⊗ Y3 ⊗ D ⊕ X1 ⊗ Y1 ⊗ Y1 ⊗ X2 ⊗ Y3 ⊗ Y3 ⊗ Y3
          ⊕ X1 ⊗ Y1 ⊗ Y1 ⊗ Y2 ⊗ X3 ⊗ Y3 ⊗ Y3 ⊕ X1 ⊗ X2 ⊗ X3 ⊗ X3 ⊗ Y3 ⊕ X1 ⊗ X2 ⊗ Y3 ⊕ X1 ⊗ Y2 ⊗ X3 ⊗ X3 ⊗ X3
          ⊕ X1 ⊗ Y2 ⊗ X3 ⊕ Y1 ⊗ Y1 ⊗ Y1 ⊗ X2 ⊗ X3 ⊗ Y3 ⊗ Y3 ⊕ Y1 ⊗ Y1 ⊗ Y1 ⊗ Y2 ⊗ Y3 ⊗ Y3 ⊗ Y3
          ⊕ Y1 ⊗ X2 ⊗ X3 ⊗ X3 ⊗ X3 ⊕ Y1 ⊗ X2 ⊗ X3 ⊕ Y1 ⊗ Y2 ⊗ X3 ⊗ X3 ⊗ Y3 ⊕ Y1 ⊗ Y2 ⊗ Y3;
      g = X1 ⊗ X1 ⊗ X1 ⊗ Y1 ⊗ Y1 ⊗ X2 ⊗ X2 ⊗ Y2 ⊗ X3 ⊗ Y3 ⊗ Y3 ⊗ D ⊗ D
          ⊕ X1 ⊗ X1 ⊗ X1 ⊗ Y1 ⊗ Y1 ⊗ X2 ⊗ Y2 ⊗ Y2 ⊗ X3 ⊗ X3 ⊗ Y3 ⊗ D ⊗ D
          ⊕ X1 ⊗ X1 ⊗ X1 ⊗ Y1 ⊗ Y1 ⊗ X2 ⊗ Y3 ⊗ Y3 ⊗ Y3 ⊗ D ⊕ X1 ⊗ X1 ⊗ X1 ⊗ Y1 ⊗ Y1 ⊗ Y2 ⊗ X3 ⊗ Y3 ⊗ Y3 ⊗ D
          ⊕ X1 ⊗ X1 ⊗ X1 ⊗ X2 ⊗ Y3 ⊗ Y3 ⊗ Y3 ⊕ X1 ⊗ X1 ⊗ X1 ⊗ Y2 ⊗ X3 ⊗ Y3 ⊗ Y3
          ⊕ X1 ⊗ X1 ⊗ Y1 ⊗ Y1 ⊗ Y1 ⊗ X2 ⊗ X3 ⊗ Y3 ⊗ Y3 ⊗ D ⊕ X1 ⊗ X1 ⊗ Y1 ⊗ Y1 ⊗ Y1 ⊗ Y2 ⊗ Y3 ⊗ Y3 ⊗ Y3 ⊗ D
          ⊕ X1 ⊗ X1 ⊗ Y1 ⊗ X2 ⊗ X2 ⊗ Y2 ⊗ Y3 ⊗ Y3 ⊗ Y3 ⊗ D ⊕ X1 ⊗ X1 ⊗ Y1 ⊗ X2 ⊗ Y2 ⊗ Y2 ⊗ X3 ⊗ X3 ⊗ X3 ⊗ D
          ⊕ X1 ⊗ X1 ⊗ Y1 ⊗ X2 ⊗ Y2 ⊗ Y2 ⊗ X3 ⊗ D ⊕ X1 ⊗ X1 ⊗ Y1 ⊗ X2 ⊗ X3 ⊗ Y3 ⊗ Y3
          ⊕ X1 ⊗ X1 ⊗ Y1 ⊗ Y2 ⊗ Y3 ⊗ Y3 ⊗ Y3 ⊕ X1 ⊗ Y1 ⊗ Y1 ⊗ X2 ⊗ X2 ⊗ Y2 ⊗ X3 ⊗ X3 ⊗ X3 ⊗ D
          ⊕ X1 ⊗ Y1 ⊗ Y1 ⊗ X2 ⊗ X2 ⊗ Y2 ⊗ X3 ⊗ D ⊕ X1 ⊗ Y1 ⊗ Y1 ⊗ X2 ⊗ Y2 ⊗ Y2 ⊗ Y3 ⊗ Y3 ⊗ Y3 ⊗ D
          ⊕ X1 ⊗ Y1 ⊗ Y1 ⊗ X2 ⊗ X3 ⊗ X3 ⊗ Y3 ⊕ X1 ⊗ Y1 ⊗ Y1 ⊗ X2 ⊗ Y3 ⊕ X1 ⊗ Y1 ⊗ Y1 ⊗ Y2 ⊗ X3 ⊗ X3 ⊗ X3
          ⊕ X1 ⊗ Y1 ⊗ Y1 ⊗ Y2 ⊗ X3 ⊕ X1 ⊗ X2 ⊗ Y3 ⊗ Y3 ⊗ Y3 ⊕ X1 ⊗ Y2 ⊗ X3 ⊗ Y3 ⊗ Y3
          ⊕ Y1 ⊗ Y1 ⊗ Y1 ⊗ X2 ⊗ X3 ⊗ X3 ⊗ X3 ⊕ Y1 ⊗ Y1 ⊗ Y1 ⊗ X2 ⊗ X3 ⊕ Y1 ⊗ Y1 ⊗ Y1 ⊗ Y2 ⊗ X3 ⊗ X3 ⊗ Y3
          ⊕ Y1 ⊗ Y1 ⊗ Y1 ⊗ Y2 ⊗ Y3 ⊕ Y1 ⊗ X2 ⊗ X3 ⊗ Y3 ⊗ Y3 ⊕ Y1 ⊗ Y2 ⊗ Y3 ⊗ Y3 ⊗ Y3;
      u = Y2 ⊗ Y2;
      w = X2 ⊗ X2 ⊕ lit 1 ⊕ D ⊗ X2 ⊗ X2 ⊗ Y2 ⊗ Y2;
    }
    ∷ record {
      f = X1 ⊗ X1 ⊗ Y1 ⊗ X2 ⊗ X2 ⊗ X2 ⊗ Y2 ⊗ Y2 ⊗ Y2 ⊗ Y2 ⊗ X3 ⊗ D ⊗ D
          ⊕ X1 ⊗ Y1 ⊗ Y1 ⊗ X2 ⊗ X2 ⊗ X2 ⊗ X2 ⊗ Y2 ⊗ Y2 ⊗ Y2 ⊗ X3 ⊗ D ⊗ D
          ⊕ X1 ⊗ Y1 ⊗ Y1 ⊗ X2 ⊗ X2 ⊗ X2 ⊗ X2 ⊗ Y2 ⊗ X3 ⊗ D ⊕ X1 ⊗ Y1 ⊗ Y1 ⊗ X2 ⊗ Y2 ⊗ Y2 ⊗ Y2 ⊗ Y2 ⊗ Y3 ⊗ D
          ⊕ Y1 ⊗ Y1 ⊗ Y1 ⊗ X2 ⊗ X2 ⊗ X2 ⊗ Y2 ⊗ Y2 ⊗ X3 ⊗ D ⊕ Y1 ⊗ Y1 ⊗ Y1 ⊗ X2 ⊗ X2 ⊗ Y2 ⊗ Y2 ⊗ Y2 ⊗ Y3 ⊗ D;
      g = X1 ⊗ X1 ⊗ X1 ⊗ X2 ⊗ X2 ⊗ X2 ⊗ Y2 ⊗ Y2 ⊗ Y3 ⊗ D ⊕ X1 ⊗ X1 ⊗ X1 ⊗ X2 ⊗ X2 ⊗ Y2 ⊗ Y2 ⊗ Y2 ⊗ X3 ⊗ D
          ⊕ X1 ⊗ X1 ⊗ Y1 ⊗ X2 ⊗ X2 ⊗ X2 ⊗ X2 ⊗ Y2 ⊗ Y2 ⊗ Y2 ⊗ Y3 ⊗ D ⊗ D
          ⊕ X1 ⊗ X1 ⊗ Y1 ⊗ X2 ⊗ X2 ⊗ X2 ⊗ X2 ⊗ Y2 ⊗ Y3 ⊗ D ⊕ X1 ⊗ X1 ⊗ Y1 ⊗ X2 ⊗ Y2 ⊗ Y2 ⊗ Y2 ⊗ Y2 ⊗ X3 ⊗ D
          ⊕ X1 ⊗ Y1 ⊗ Y1 ⊗ X2 ⊗ X2 ⊗ X2 ⊗ Y2 ⊗ Y2 ⊗ Y2 ⊗ Y2 ⊗ Y3 ⊗ D ⊗ D
          ⊕ X1 ⊗ X2 ⊗ X2 ⊗ X2 ⊗ Y2 ⊗ Y2 ⊗ Y3 ⊗ D ⊕ X1 ⊗ X2 ⊗ X2 ⊗ Y2 ⊗ Y2 ⊗ Y2 ⊗ X3 ⊗ D
          ⊕ Y1 ⊗ X2 ⊗ X2 ⊗ X2 ⊗ Y2 ⊗ Y2 ⊗ X3 ⊗ D ⊕ Y1 ⊗ X2 ⊗ X2 ⊗ Y2 ⊗ Y2 ⊗ Y2 ⊗ Y3 ⊗ D;
      u = Y3 ⊗ Y3;
      w = X3 ⊗ X3 ⊕ lit 1 ⊕ D ⊗ X3 ⊗ X3 ⊗ Y3 ⊗ Y3;
    }
    ∷ [])
    (((Y1 ⊗ Y2 ⊕ X1 ⊗ X2) ⊗ G ⊗ Y3 ⊕ (X1 ⊗ Y2 ⊕ Y1 ⊗ X2) ⊗ F ⊗ X3) ⊗ R)
    (((Y3 ⊗ Y2 ⊕ X3 ⊗ X2) ⊗ L ⊗ Y1 ⊕ (X3 ⊗ Y2 ⊕ Y3 ⊗ X2) ⊗ K ⊗ X1) ⊗ Q)
    some (q_is, (r_is, (f_is, (g_is, (k_is, (l_is, (e1, (e2, (e3, tt))))))))) refl
