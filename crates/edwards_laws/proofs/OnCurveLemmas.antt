-- A sum is on the curve: the equation of E / g and H / f, where E is x1 y2 + y1 x2 and H is y1 y2 + x1 x2, times f ^ 2 g ^ 2.
use Rattle.std.proofs.Common.{◌<◌, ℕ, ◌+◌, ◌*◌, refl, [], ◌∷◌}
use Rattle.curve_laws.proofs.DifferenceLemmas.{IsCongruent}
use Rattle.edwards_laws.proofs.CongruenceLemmas.{by-steps}
use Rattle.edwards_laws.proofs.PolynomialLemmas.{Expr, lit, var, ◌⊕◌, ◌⊗◌}

-- ---- the variables

abbrev X1 : Expr
X1 = var 0

abbrev Y1 : Expr
Y1 = var 1

abbrev X2 : Expr
X2 = var 2

abbrev Y2 : Expr
Y2 = var 3

abbrev D : Expr
D = var 4

abbrev F : Expr
F = var 5

abbrev G : Expr
G = var 6

-- ---- the identity

-- the squares of the numerators
pub squares-on-curve : (m x1 y1 x2 y2 d f g : ℕ) → 0 < m
    → IsCongruent m (f + d * x1 * x2 * y1 * y2) (1)
    → IsCongruent m (g) (1 + d * x1 * x2 * y1 * y2)
    → IsCongruent m (y1 * y1) (x1 * x1 + 1 + d * x1 * x1 * y1 * y1)
    → IsCongruent m (y2 * y2) (x2 * x2 + 1 + d * x2 * x2 * y2 * y2)
    → IsCongruent m ((y1 * y2 + x1 * x2) * (y1 * y2 + x1 * x2) * g * g)
    ((x1 * y2 + y1 * x2) * (x1 * y2 + y1 * x2) * f * f + f * f * g * g + d * (x1 * y2 + y1 * x2) * (x1 * y2 + y1 * x2) * (y1 * y2 + x1 * x2) * (y1 * y2 + x1 * x2))
squares-on-curve m x1 y1 x2 y2 d f g some f_is g_is e1 e2 =
    by-steps m (x1 ∷ y1 ∷ x2 ∷ y2 ∷ d ∷ f ∷ g ∷ [])
    (record {
      f = X1 ⊗ X1 ⊗ Y2 ⊗ Y2 ⊗ F ⊕ X1 ⊗ X1 ⊗ Y2 ⊗ Y2 ⊕ lit 2 ⊗ X1 ⊗ Y1 ⊗ X2 ⊗ Y2 ⊗ F
          ⊕ lit 2 ⊗ X1 ⊗ Y1 ⊗ X2 ⊗ Y2 ⊕ Y1 ⊗ Y1 ⊗ X2 ⊗ X2 ⊗ F ⊕ Y1 ⊗ Y1 ⊗ X2 ⊗ X2 ⊕ F ⊗ G ⊗ G ⊕ G ⊗ G;
      g = X1 ⊗ X1 ⊗ X1 ⊗ Y1 ⊗ X2 ⊗ Y2 ⊗ Y2 ⊗ Y2 ⊗ D ⊕ lit 2 ⊗ X1 ⊗ X1 ⊗ Y1 ⊗ Y1 ⊗ X2 ⊗ X2 ⊗ Y2 ⊗ Y2 ⊗ D
          ⊕ X1 ⊗ Y1 ⊗ Y1 ⊗ Y1 ⊗ X2 ⊗ X2 ⊗ X2 ⊗ Y2 ⊗ D ⊕ X1 ⊗ Y1 ⊗ X2 ⊗ Y2 ⊗ D ⊗ G ⊗ G;
      u = F ⊕ D ⊗ X1 ⊗ X2 ⊗ Y1 ⊗ Y2;
      w = lit 1;
    }
    ∷ record {
      f = X1 ⊗ X1 ⊗ X1 ⊗ Y1 ⊗ Y1 ⊗ Y1 ⊗ X2 ⊗ X2 ⊗ X2 ⊗ Y2 ⊗ Y2 ⊗ Y2 ⊗ D ⊗ D ⊗ D
          ⊕ X1 ⊗ X1 ⊗ Y1 ⊗ Y1 ⊗ X2 ⊗ X2 ⊗ Y2 ⊗ Y2 ⊗ D ⊗ D ⊗ G ⊕ G ⊕ lit 1;
      g = X1 ⊗ X1 ⊗ X1 ⊗ Y1 ⊗ X2 ⊗ X2 ⊗ X2 ⊗ Y2 ⊗ D ⊕ X1 ⊗ X1 ⊗ Y1 ⊗ Y1 ⊗ X2 ⊗ X2 ⊗ Y2 ⊗ Y2 ⊗ D ⊗ D
          ⊕ lit 2 ⊗ X1 ⊗ X1 ⊗ Y1 ⊗ Y1 ⊗ X2 ⊗ X2 ⊗ Y2 ⊗ Y2 ⊗ D ⊕ X1 ⊗ X1 ⊗ X2 ⊗ X2 ⊗ G ⊕ X1 ⊗ X1 ⊗ X2 ⊗ X2
          ⊕ X1 ⊗ Y1 ⊗ Y1 ⊗ Y1 ⊗ X2 ⊗ Y2 ⊗ Y2 ⊗ Y2 ⊗ D ⊕ lit 2 ⊗ X1 ⊗ Y1 ⊗ X2 ⊗ Y2 ⊗ D ⊗ G
          ⊕ X1 ⊗ Y1 ⊗ X2 ⊗ Y2 ⊗ D ⊕ lit 2 ⊗ X1 ⊗ Y1 ⊗ X2 ⊗ Y2 ⊗ G ⊕ lit 2 ⊗ X1 ⊗ Y1 ⊗ X2 ⊗ Y2
          ⊕ Y1 ⊗ Y1 ⊗ Y2 ⊗ Y2 ⊗ G ⊕ Y1 ⊗ Y1 ⊗ Y2 ⊗ Y2;
      u = G;
      w = lit 1 ⊕ D ⊗ X1 ⊗ X2 ⊗ Y1 ⊗ Y2;
    }
    ∷ record {
      f = lit 2 ⊗ X1 ⊗ X1 ⊗ Y1 ⊗ Y1 ⊗ Y2 ⊗ Y2 ⊗ D ⊕ lit 2 ⊗ X1 ⊗ X1 ⊗ Y1 ⊗ Y1 ⊗ Y2 ⊗ Y2 ⊕ X1 ⊗ X1 ⊗ X2 ⊗ X2
          ⊕ X1 ⊗ X1 ⊕ Y1 ⊗ Y1 ⊗ Y2 ⊗ Y2;
      g = X1 ⊗ X1 ⊗ Y1 ⊗ Y1 ⊗ X2 ⊗ X2 ⊗ X2 ⊗ X2 ⊗ D ⊕ lit 2 ⊗ X1 ⊗ X1 ⊗ Y1 ⊗ Y1 ⊗ X2 ⊗ X2 ⊗ D
          ⊕ lit 2 ⊗ X1 ⊗ X1 ⊗ Y1 ⊗ Y1 ⊗ X2 ⊗ X2 ⊕ X1 ⊗ X1 ⊗ Y1 ⊗ Y1 ⊗ Y2 ⊗ Y2 ⊗ Y2 ⊗ Y2 ⊗ D
          ⊕ X1 ⊗ X1 ⊗ Y1 ⊗ Y1 ⊗ D ⊕ lit 2 ⊗ X1 ⊗ X1 ⊗ Y1 ⊗ Y1 ⊕ X1 ⊗ X1 ⊗ Y2 ⊗ Y2 ⊕ Y1 ⊗ Y1 ⊗ X2 ⊗ X2
          ⊕ Y1 ⊗ Y1 ⊕ lit 1;
      u = Y1 ⊗ Y1;
      w = X1 ⊗ X1 ⊕ lit 1 ⊕ D ⊗ X1 ⊗ X1 ⊗ Y1 ⊗ Y1;
    }
    ∷ record {
      f = X1 ⊗ X1 ⊗ X1 ⊗ X1 ⊗ Y1 ⊗ Y1 ⊗ Y1 ⊗ Y1 ⊗ X2 ⊗ X2 ⊗ D ⊗ D
          ⊕ X1 ⊗ X1 ⊗ X1 ⊗ X1 ⊗ Y1 ⊗ Y1 ⊗ Y1 ⊗ Y1 ⊗ D ⊗ D ⊕ lit 2 ⊗ X1 ⊗ X1 ⊗ X1 ⊗ X1 ⊗ Y1 ⊗ Y1 ⊗ Y1 ⊗ Y1 ⊗ D
          ⊕ X1 ⊗ X1 ⊗ X1 ⊗ X1 ⊗ Y1 ⊗ Y1 ⊗ X2 ⊗ X2 ⊗ D ⊕ lit 2 ⊗ X1 ⊗ X1 ⊗ X1 ⊗ X1 ⊗ Y1 ⊗ Y1
          ⊕ X1 ⊗ X1 ⊗ Y1 ⊗ Y1 ⊗ Y1 ⊗ Y1 ⊗ Y2 ⊗ Y2 ⊗ D ⊕ lit 2 ⊗ X1 ⊗ X1 ⊗ Y1 ⊗ Y1 ⊗ D
          ⊕ lit 4 ⊗ X1 ⊗ X1 ⊗ Y1 ⊗ Y1;
      g = X1 ⊗ X1 ⊗ X1 ⊗ X1 ⊗ Y1 ⊗ Y1 ⊗ Y1 ⊗ Y1 ⊗ X2 ⊗ X2 ⊗ Y2 ⊗ Y2 ⊗ D ⊗ D ⊗ D
          ⊕ X1 ⊗ X1 ⊗ X1 ⊗ X1 ⊗ Y1 ⊗ Y1 ⊗ Y1 ⊗ Y1 ⊗ Y2 ⊗ Y2 ⊗ D ⊗ D
          ⊕ X1 ⊗ X1 ⊗ X1 ⊗ X1 ⊗ Y1 ⊗ Y1 ⊗ Y2 ⊗ Y2 ⊗ D ⊕ X1 ⊗ X1 ⊗ X1 ⊗ X1
          ⊕ X1 ⊗ X1 ⊗ Y1 ⊗ Y1 ⊗ Y1 ⊗ Y1 ⊗ X2 ⊗ X2 ⊗ D ⊕ lit 2 ⊗ X1 ⊗ X1 ⊗ Y1 ⊗ Y1 ⊗ Y1 ⊗ Y1
          ⊕ Y1 ⊗ Y1 ⊗ Y1 ⊗ Y1;
      u = Y2 ⊗ Y2;
      w = X2 ⊗ X2 ⊕ lit 1 ⊕ D ⊗ X2 ⊗ X2 ⊗ Y2 ⊗ Y2;
    }
    ∷ [])
    ((Y1 ⊗ Y2 ⊕ X1 ⊗ X2) ⊗ (Y1 ⊗ Y2 ⊕ X1 ⊗ X2) ⊗ G ⊗ G)
    ((X1 ⊗ Y2 ⊕ Y1 ⊗ X2) ⊗ (X1 ⊗ Y2 ⊕ Y1 ⊗ X2) ⊗ F ⊗ F ⊕ F ⊗ F ⊗ G ⊗ G ⊕ D ⊗ (X1 ⊗ Y2 ⊕ Y1 ⊗ X2) ⊗ (X1 ⊗ Y2 ⊕ Y1 ⊗ X2) ⊗ (Y1 ⊗ Y2 ⊕ X1 ⊗ X2) ⊗ (Y1 ⊗ Y2 ⊕ X1 ⊗ X2))
    some (f_is, (g_is, (e1, (e2, tt)))) refl
