-- Identities of polynomials with natural coefficients, proved by computing a normal form of either side: for those with
-- hundreds of terms.
use Rattle.std.proofs.Common.{◌≡◌, ℕ, zero, suc, ◌+◌, ◌*◌, arith, ap, refl, sym, ◌∙◌, Bool, true, false, List, [], ◌∷◌, ◌&&◌, nat_eq}
use Rattle.std.proofs.lemmas.Bool.Decides.{Decides-eqb}

-- a polynomial as it is written, in numbered variables
pub data Expr : Type 0 where
  var : ℕ → Expr
  lit : ℕ → Expr
  ◌⊕◌ : Expr → Expr → Expr
  ◌⊗◌ : Expr → Expr → Expr

infixl 60 ◌⊕◌
infixl 70 ◌⊗◌
-- the number that the variables have
abbrev pub number : List ℕ → ℕ → ℕ
number [] n = 0
number (x ∷ env) zero = x
number (x ∷ env) (suc n) = number env n

-- the value of what is written
abbrev pub value : List ℕ → Expr → ℕ
value env (var n) = number env n
value env (lit c) = c
value env (a ⊕ b) = value env a + value env b
value env (a ⊗ b) = value env a * value env b

-- ---- the normal form

-- a number, or p + x q (Horner's rule), where x is the first variable, and p is of the others
pub data Poly : Type 0 where
  con : ℕ → Poly
  horner : Poly → Poly → Poly

-- the value of a normal form
abbrev pub eval : List ℕ → Poly → ℕ
eval env (con c) = c
eval [] (horner p q) = eval [] p
eval (x ∷ env) (horner p q) = eval env p + x * eval (x ∷ env) q

-- the sum
abbrev pub add : Poly → Poly → Poly
add (con a) (con b) = con (a + b)
add (con zero) (horner p q) = horner p q
add (con (suc a)) (horner p q) = horner (add (con (suc a)) p) q
add (horner p q) (con zero) = horner p q
add (horner p q) (con (suc b)) = horner (add p (con (suc b))) q
add (horner p q) (horner r s) = horner (add p r) (add q s)

-- f of each coefficient
abbrev pub lift : (Poly → Poly) → Poly → Poly
lift f (con b) = horner (f (con b)) (con 0)
lift f (horner r s) = horner (f r) (lift f s)

-- the product with a number
abbrev pub scale : ℕ → Poly → Poly
scale zero q = con 0
scale (suc a) (con b) = con (suc a * b)
scale (suc a) (horner p q) = horner (scale (suc a) p) (scale (suc a) q)

-- the product
abbrev pub mul : Poly → Poly → Poly
mul (con a) r = scale a r
mul (horner p q) (con b) = scale b (horner p q)
mul (horner p q) (horner r s) = add (lift (mul p) (horner r s)) (horner (con 0) (mul q (horner r s)))

-- a variable
abbrev pub variable : ℕ → Poly
variable zero = horner (con 0) (con 1)
variable (suc n) = horner (variable n) (con 0)

-- the normal form of what is written
abbrev pub norm : Expr → Poly
norm (var n) = variable n
norm (lit c) = con c
norm (a ⊕ b) = add (norm a) (norm b)
norm (a ⊗ b) = mul (norm a) (norm b)

-- every coefficient is 0
abbrev pub is-zero : Poly → Bool
is-zero (con zero) = true
is-zero (con (suc n)) = false
is-zero (horner p q) = is-zero p && is-zero q

-- two normal forms are one, but for coefficients of 0
abbrev pub same : Poly → Poly → Bool
same (con a) (con b) = nat_eq a b
same (con a) (horner p q) = same (con a) p && is-zero q
same (horner p q) (con b) = same p (con b) && is-zero q
same (horner p q) (horner r s) = same p r && same q s

-- ---- the value of each is what it is to be

-- sums coefficient by coefficient
add-spread : (a b c d x : ℕ) → (a + b) + x * (c + d) ≡ (a + x * c) + (b + x * d)
add-spread a b c d x = omega arith

-- of a sum
eval-add : (env : List ℕ) (p q : Poly) → eval env (add p q) ≡ eval env p + eval env q
eval-add env (con a) (con b) = refl
eval-add env (con zero) (horner p q) = omega arith
eval-add [] (con (suc a)) (horner p q) = eval-add [] (con (suc a)) p
eval-add (x ∷ env) (con (suc a)) (horner p q) = let is = eval-add env (con (suc a)) p in omega arith
eval-add env (horner p q) (con zero) = omega arith
eval-add [] (horner p q) (con (suc b)) = eval-add [] p (con (suc b))
eval-add (x ∷ env) (horner p q) (con (suc b)) = let is = eval-add env p (con (suc b)) in omega arith
eval-add [] (horner p q) (horner r s) = eval-add [] p r
eval-add (x ∷ env) (horner p q) (horner r s) =
    ap (λ k. k + x * eval (x ∷ env) (add q s)) (eval-add env p r)
    ∙ ap (λ k. eval env p + eval env r + x * k) (eval-add (x ∷ env) q s)
    ∙ add-spread (eval env p) (eval env r) (eval (x ∷ env) q) (eval (x ∷ env) s) x

-- products coefficient by coefficient
scale-spread : (a b c x : ℕ) → a * b + x * (a * c) ≡ a * (b + x * c)
scale-spread a b c x = omega arith

-- a coefficient of 0
zero-coefficient : (a x : ℕ) → a + x * 0 ≡ a
zero-coefficient a x = omega arith

-- of a product with a number
eval-scale : (env : List ℕ) (a : ℕ) (q : Poly) → eval env (scale a q) ≡ a * eval env q
eval-scale env zero q = omega arith
eval-scale env (suc a) (con b) = refl
eval-scale [] (suc a) (horner p q) = eval-scale [] (suc a) p
eval-scale (x ∷ env) (suc a) (horner p q) =
    ap (λ k. k + x * eval (x ∷ env) (scale (suc a) q)) (eval-scale env (suc a) p)
    ∙ ap (λ k. suc a * eval env p + x * k) (eval-scale (x ∷ env) (suc a) q)
    ∙ scale-spread (suc a) (eval env p) (eval (x ∷ env) q) x

-- where f multiplies by k, so does lift f
eval-lift : (x : ℕ) (env : List ℕ) (f : Poly → Poly) (k : ℕ)
    → ((r : Poly) → eval env (f r) ≡ k * eval env r)
    → (r : Poly) → eval (x ∷ env) (lift f r) ≡ k * eval (x ∷ env) r
eval-lift x env f k f_is (con b) = zero-coefficient (eval env (f (con b))) x ∙ f_is (con b)
eval-lift x env f k f_is (horner r s) =
    ap (λ l. l + x * eval (x ∷ env) (lift f s)) (f_is r)
    ∙ ap (λ l. k * eval env r + x * l) (eval-lift x env f k f_is s)
    ∙ scale-spread k (eval env r) (eval (x ∷ env) s) x

-- steps of the product
turned : (b n : ℕ) → b * n ≡ n * b
turned b n = omega arith

-- a product with p + x q
mul-spread : (p q r x : ℕ) → p * r + (0 + x * (q * r)) ≡ (p + x * q) * r
mul-spread p q r x = omega arith

-- k + 0
nothing-more : (k : ℕ) → k + 0 ≡ k
nothing-more k = omega arith

-- of a product
eval-mul : (env : List ℕ) (p r : Poly) → eval env (mul p r) ≡ eval env p * eval env r
eval-mul env (con a) r = eval-scale env a r
eval-mul env (horner p q) (con b) = eval-scale env b (horner p q) ∙ turned b (eval env (horner p q))
eval-mul [] (horner p q) (horner r s) =
    eval-add [] (lift (mul p) (horner r s)) (horner (con 0) (mul q (horner r s)))
    ∙ nothing-more (eval [] (mul p r)) ∙ eval-mul [] p r
eval-mul (x ∷ env) (horner p q) (horner r s) =
    eval-add (x ∷ env) (lift (mul p) (horner r s)) (horner (con 0) (mul q (horner r s)))
    ∙ ap (λ k. k + (0 + x * eval (x ∷ env) (mul q (horner r s))))
    (eval-lift x env (mul p) (eval env p) (λ t. eval-mul env p t) (horner r s))
    ∙ ap (λ k. eval env p * eval (x ∷ env) (horner r s) + (0 + x * k)) (eval-mul (x ∷ env) q (horner r s))
    ∙ mul-spread (eval env p) (eval (x ∷ env) q) (eval (x ∷ env) (horner r s)) x

-- 0 + x 1
one-time : (x : ℕ) → 0 + x * 1 ≡ x
one-time x = omega arith

-- of a variable
eval-variable : (env : List ℕ) (n : ℕ) → eval env (variable n) ≡ number env n
eval-variable [] zero = refl
eval-variable [] (suc n) = eval-variable [] n
eval-variable (x ∷ env) zero = one-time x
eval-variable (x ∷ env) (suc n) = zero-coefficient (eval env (variable n)) x ∙ eval-variable env n

-- of the normal form
eval-norm : (env : List ℕ) (e : Expr) → eval env (norm e) ≡ value env e
eval-norm env (var n) = eval-variable env n
eval-norm env (lit c) = refl
eval-norm env (a ⊕ b) =
    eval-add env (norm a) (norm b) ∙ ap (λ k. k + eval env (norm b)) (eval-norm env a)
    ∙ ap (λ k. value env a + k) (eval-norm env b)
eval-norm env (a ⊗ b) =
    eval-mul env (norm a) (norm b) ∙ ap (λ k. k * eval env (norm b)) (eval-norm env a)
    ∙ ap (λ k. value env a * k) (eval-norm env b)

-- ---- the comparison

-- parts of a test
both-first : (a b : Bool) → a && b ≡ true → a ≡ true
both-first true b is = refl
both-first false b is = is

-- and the second part
both-second : (a b : Bool) → a && b ≡ true → b ≡ true
both-second true b is = is
both-second false true is = refl
both-second false false is = is

-- a normal form without coefficients is 0
eval-zero : (env : List ℕ) (p : Poly) → is-zero p ≡ true → eval env p ≡ 0
eval-zero env (con zero) is = refl
eval-zero env (con (suc n)) is = search
eval-zero [] (horner p q) is = eval-zero [] p (both-first (is-zero p) (is-zero q) is)
eval-zero (x ∷ env) (horner p q) is =
    let first = eval-zero env p (both-first (is-zero p) (is-zero q) is) in
    let second = eval-zero (x ∷ env) q (both-second (is-zero p) (is-zero q) is) in
    ap (λ k. k + x * eval (x ∷ env) q) first ∙ ap (λ k. 0 + x * k) second ∙ zero-coefficient 0 x

-- normal forms that are one have one value
eval-same : (env : List ℕ) (p q : Poly) → same p q ≡ true → eval env p ≡ eval env q
eval-same env (con a) (con b) is = (Decides-eqb a b).0 is
eval-same [] (con a) (horner p q) is = eval-same [] (con a) p (both-first (same (con a) p) (is-zero q) is)
eval-same (x ∷ env) (con a) (horner p q) is =
    eval-same env (con a) p (both-first (same (con a) p) (is-zero q) is) ∙ sym (zero-coefficient (eval env p) x)
    ∙ ap (λ k. eval env p + x * k) (sym (eval-zero (x ∷ env) q (both-second (same (con a) p) (is-zero q) is)))
eval-same [] (horner p q) (con b) is = eval-same [] p (con b) (both-first (same p (con b)) (is-zero q) is)
eval-same (x ∷ env) (horner p q) (con b) is =
    ap (λ k. eval env p + x * k) (eval-zero (x ∷ env) q (both-second (same p (con b)) (is-zero q) is))
    ∙ zero-coefficient (eval env p) x ∙ eval-same env p (con b) (both-first (same p (con b)) (is-zero q) is)
eval-same [] (horner p q) (horner r s) is = eval-same [] p r (both-first (same p r) (same q s) is)
eval-same (x ∷ env) (horner p q) (horner r s) is =
    ap (λ k. k + x * eval (x ∷ env) q) (eval-same env p r (both-first (same p r) (same q s) is))
    ∙ ap (λ k. eval env r + x * k) (eval-same (x ∷ env) q s (both-second (same p r) (same q s) is))

-- what is written in two ways has one value, where the normal forms are one
pub identity : (env : List ℕ) (left right : Expr) → same (norm left) (norm right) ≡ true
    → value env left ≡ value env right
identity env left right is =
    sym (eval-norm env left) ∙ eval-same env (norm left) (norm right) is ∙ eval-norm env right
