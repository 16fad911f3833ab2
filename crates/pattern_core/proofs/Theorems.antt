-- The test by cases is the relation.
use Rattle.std.proofs.Common.{◌≡◌, ◌≢◌, ℕ, eqb, Bool, true, List, [], ◌∷◌, ◌++◌, ◌||◌, refl, sym, subst, arith, inl, inr, ap}
use Rattle.std.proofs.lemmas.Bool.{eqb-true, ne_eqb, cases_eq, or_cases, and_parts}
use Rattle.std.proofs.lemmas.Bool.Decides.{nat_tests}
use Rattle.pattern_core.specs.Patterns.{star, question, Matches, both_end, run, any_byte, same_byte, is_match, some_end, byte_and_then, some_end_is_match}

-- an end that passes, with what stands before it
pub record IsEnd (test : List ℕ → Bool) (text : List ℕ) : Type 0 where
  pub before : List ℕ
  pub rest : List ℕ
  pub whole : before ++ rest ≡ text
  pub passes : test rest ≡ true

-- where some end passes, there is one
pub some_end_is : (test : List ℕ → Bool) (text : List ℕ) → some_end test text ≡ true → IsEnd test text
some_end_is test [] h = record { before = []; rest = []; whole = refl; passes = h }
some_end_is test (x ∷ xs) h = elim (or_cases (test (x ∷ xs)) (some_end test xs) h) [
  | inl here ↦ record { before = []; rest = x ∷ xs; whole = refl; passes = here }
  | inr later ↦ let is = some_end_is test xs later in
      record { before = x ∷ is.before; rest = is.rest; whole = ap (λ l. x ∷ l) is.whole; passes = is.passes }
]

-- an end that passes is some end
pub some_end-append : (test : List ℕ → Bool) (before rest : List ℕ) → test rest ≡ true → some_end test (before ++ rest) ≡ true
some_end-append test [] [] h = h
some_end-append test [] (x ∷ xs) h = grind (arith, h)
some_end-append test (y ∷ ys) rest h = let ih = some_end-append test ys rest h in grind (arith, ih)

-- a `*` and a pattern that takes in some end
Matches-star : (pattern : List ℕ) → ((text : List ℕ) → is_match text pattern ≡ true → Matches text pattern) → (text : List ℕ)
    → some_end_is_match text pattern ≡ true → Matches text (star ∷ pattern)
Matches-star pattern rest_matches text h =
    let is = some_end_is (λ rest. is_match rest pattern) text h in
    let P : List ℕ → Type 0 = λ t. Matches t (star ∷ pattern) in
    subst P is.whole (run is.before is.rest pattern (rest_matches is.rest is.passes))

-- one byte that fits, and a pattern that takes in what follows
Matches-byte : (wanted : ℕ) → wanted ≢ star → (pattern : List ℕ)
    → ((text : List ℕ) → is_match text pattern ≡ true → Matches text pattern) → (text : List ℕ)
    → byte_and_then wanted (λ rest. is_match rest pattern) text ≡ true → Matches text (wanted ∷ pattern)
Matches-byte wanted other pattern rest_matches [] h = cc
Matches-byte wanted other pattern rest_matches (x ∷ xs) h =
    let parts = and_parts (eqb wanted question || eqb wanted x) (is_match xs pattern) h in
    let rest = rest_matches xs parts.1 in
    elim (cases_eq wanted question) [
      | inl any ↦ let P : ℕ → Type 0 = λ w. Matches (x ∷ xs) (w ∷ pattern) in
          subst P (sym any) (any_byte x xs pattern rest)
      | inr one ↦ elim (or_cases (eqb wanted question) (eqb wanted x) parts.0) [
        | inl any ↦ absurd (one (eqb-true wanted question any))
        | inr same ↦ let P : ℕ → Type 0 = λ b. Matches (b ∷ xs) (wanted ∷ pattern) in
            subst P (eqb-true wanted x same) (same_byte wanted xs pattern other one rest)
      ]
    ]

-- what passes the test matches
pub Matches_from_is_match : (pattern text : List ℕ) → is_match text pattern ≡ true → Matches text pattern
unfolding is_match
Matches_from_is_match [] [] h = both_end
Matches_from_is_match [] (x ∷ xs) h = cc
Matches_from_is_match (w ∷ ws) text h =
    let rest_matches = λ (rest : List ℕ) (passes : is_match rest ws ≡ true). Matches_from_is_match ws rest passes in
    elim (cases_eq w star) [
      | inl begins ↦
          let P : ℕ → Type 0 = λ v. Matches text (v ∷ ws) in
          let Q : ℕ → Type 0 = λ v. is_match text (v ∷ ws) ≡ true in
          subst P (sym begins) (Matches-star ws rest_matches text (subst Q begins h))
      | inr other ↦
          let no_star = ne_eqb w star other in
          Matches-byte w other ws rest_matches text (grind (arith, nat_tests, h, no_star))
    ]

-- what matches passes the test
pub is_match_from_Matches : {text pattern : List ℕ} → Matches text pattern → is_match text pattern ≡ true
unfolding is_match
is_match_from_Matches both_end = refl
is_match_from_Matches (run skipped text pattern m) =
    some_end-append (λ rest. is_match rest pattern) skipped text (is_match_from_Matches m)
is_match_from_Matches (any_byte byte text pattern m) = is_match_from_Matches m
is_match_from_Matches (same_byte byte text pattern other_than_star other_than_question m) =
    let ih = is_match_from_Matches m in grind (arith, nat_tests, ih)
