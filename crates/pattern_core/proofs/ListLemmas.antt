-- Comma lists: their parts in lower case, and the tests of an element.
use Rattle.std.proofs.Common.{◌≡◌, ◌==◌, ◌≢◌, ◌↔◌, ℕ, Bool, true, false, not, ◌&&◌, ◌||◌, cond, List, [], ◌∷◌, map, refl, ap, sym, ◌∙◌, arith}
use Rattle.std.proofs.lemmas.Bool.{eqb-true, eqb-false, eq-eqb, ne_eqb, not-true, false≢true, and_parts, and_from, not_from_false, false_from_ne_true, both_ways}
use Rattle.std.proofs.lemmas.Bool.Decides.{nat_tests}
use Rattle.std.proofs.lemmas.List.Folds.{Any-from_list_any, list_any-from_Any}
use Rattle.std.specs.Prelude.{Any}
use Rattle.std.specs.Char.{to_ascii_lowercase}
use Rattle.std.specs.List.{onto_first, list_any}
use Rattle.pattern_core.proofs.Theorems.{Matches_from_is_match, is_match_from_Matches}
use Rattle.pattern_core.specs.PatternLists.{bang, lowered, some_element, comma, elements, accepts_host, rejects_host, Accepts, Rejects, MatchesList}
use Rattle.pattern_core.specs.Patterns.{is_match}

-- a comma has no case
pub lowercase-comma : (byte : ℕ) → (to_ascii_lowercase byte == comma) ≡ (byte == comma)
lowercase-comma byte = grind (arith, nat_tests)

-- a first element grows alike in lower case
pub map-onto_first : (byte : ℕ) (parts : List (List ℕ))
    → map lowered (onto_first byte parts) ≡ onto_first (to_ascii_lowercase byte) (map lowered parts)
map-onto_first byte [] = refl
map-onto_first byte (part ∷ parts) = refl

-- a change of each part of a choice
pub map-cond : (change : List ℕ → List ℕ) (b : Bool) (cut kept : List (List ℕ))
    → map change (cond b cut kept) ≡ cond b (map change cut) (map change kept)
map-cond change true cut kept = refl
map-cond change false cut kept = refl

-- the parts in lower case are those of the list in lower case
pub elements-lowercase : (patterns : List ℕ)
    → elements (lowered patterns) ≡ map lowered (elements patterns)
elements-lowercase [] = refl
elements-lowercase (x ∷ xs) =
    let ih = elements-lowercase xs in
    let grown = map-onto_first x (elements xs) in
    rw (lowercase-comma x, ih, ← grown) (sym (map-cond lowered (x == comma) _ _))

-- a test of the elements in lower case
pub list_any-map : (test : List ℕ → Bool) (change : List ℕ → List ℕ) (parts : List (List ℕ))
    → list_any test (map change parts) ≡ list_any (λ part. test (change part)) parts
list_any-map test change [] = refl
list_any-map test change (part ∷ parts) = ap (λ b. test (change part) || b) (list_any-map test change parts)

-- the test of an element that isn't negated
pub Accepts-accepts_host : (host element : List ℕ) → (accepts_host host element ≡ true) ↔ Accepts host element
Accepts-accepts_host host [] =
    (λ h. ((λ pattern e. cc), Matches_from_is_match [] host h), λ a. is_match_from_Matches a.1)
Accepts-accepts_host host (x ∷ xs) = (
  λ h. let parts = and_parts (not (x == bang)) (is_match host (x ∷ xs)) h in
      let other : x ≢ bang = eqb-false x bang (not-true (x == bang) parts.0) in
      ((λ pattern e. let first : x ≡ bang = cc in other first), Matches_from_is_match (x ∷ xs) host parts.1),
  λ a. let other : (x == bang) ≡ false = ne_eqb x bang (λ e. a.0 xs (ap (λ v. v ∷ xs) e)) in
      let match = is_match_from_Matches a.1 in
      grind (arith, other, match),
)

-- the test of a negated one
pub Rejects-rejects_host : (host element : List ℕ) → (rejects_host host element ≡ true) ↔ Rejects host element
Rejects-rejects_host host [] = (λ h. absurd (false≢true h), λ r. let e = r.1 in absurd cc)
Rejects-rejects_host host (x ∷ xs) = (
  λ h. let parts = and_parts (x == bang) (is_match host xs) h in
      (xs, ap (λ v. v ∷ xs) (eqb-true x bang parts.0), Matches_from_is_match xs host parts.1),
  λ r. let e = r.1 in
      let first : (x == bang) ≡ true = eq-eqb x bang cc in
      let rest : r.0 ≡ xs = cc in
      let match : is_match host xs ≡ true = rw (← rest) (is_match_from_Matches r.2) in
      grind (arith, first, match),
)

-- a test of some element in lower case is the relation that it tests
pub Any-tests : (test : List ℕ → Bool) (R : List ℕ → Type 0) → ((element : List ℕ) → (test element ≡ true) ↔ R element)
    → (patterns : List ℕ) (found : Bool) → found ≡ some_element test patterns
    → (found ≡ true) ↔ Any R (elements (lowered patterns))
Any-tests test R decides patterns found is =
    let all = elements (lowered patterns) in
    let same : found ≡ list_any test all =
    is ∙ sym (list_any-map test lowered (elements patterns)) ∙ sym (ap (list_any test) (elements-lowercase patterns)) in (
      λ h. let a = Any-from_list_any test all (sym same ∙ h) in (a.0, a.1, a.2, a.3, (decides a.1).0 a.4),
      λ a. same ∙ list_any-from_Any test all (a.0, a.1, a.2, a.3, (decides a.1).1 a.4),
    )

-- the tests of a list are its relation
pub MatchesList-tests : (host patterns : List ℕ) (accepts rejects : Bool)
    → accepts ≡ some_element (accepts_host (lowered host)) patterns
    → rejects ≡ some_element (rejects_host (lowered host)) patterns
    → ((accepts && not rejects) ≡ true) ↔ MatchesList host patterns
MatchesList-tests host patterns accepts rejects some none =
    let low = lowered host in
    let accepted = Any-tests (accepts_host low) (Accepts low) (Accepts-accepts_host low) patterns accepts some in
    let rejected = Any-tests (rejects_host low) (Rejects low) (Rejects-rejects_host low) patterns rejects none in (
      λ h. let parts = and_parts accepts (not rejects) h in
          record { accepted = accepted.0 parts.0; not_rejected = λ r. both_ways rejects (not-true rejects parts.1) (rejected.1 r) },
      λ m. and_from accepts (not rejects) (accepted.1 m.accepted)
          (not_from_false rejects (false_from_ne_true rejects (λ h. m.not_rejected (rejected.0 h)))),
    )
