-- Destination constraints: what is read is in the grammar, and what is in the grammar is read.
use Rattle.std.proofs.Common.{◌≡◌, ◌≢◌, ℕ, ◌^◌, ◌<◌, ◌≤◌, cond, List, [], ◌∷◌, ◌++◌, map, length, All, Result, Ok, Err, refl, sym, ap, subst, ◌∙◌, arith}
use Rattle.std.proofs.lemmas.List.{append-nil}
use Rattle.wire_text.specs.Wire.{IsBytes, string}
use Rattle.wire_text.proofs.WireLemmas.{length-string}
use Rattle.constraint_rec.specs.declared.fault.TermFault.{TermFault}
use Rattle.constraint_rec.specs.declared.fault.TermFault.TheVariants.{Short}
use Rattle.constraint_rec.specs.declared.constraint.Hop.{Hop}
use Rattle.constraint_rec.specs.declared.constraint.Constraint.{Constraint}
use Rattle.constraint_rec.specs.Hops.{SpeltHop, SpeltConstraint, hop_text, constraint_text, list_text, hop_of, constraint_of, IsReadable, IsFromHop, IsToHop, IsDestination}
use Rattle.wire_core.specs.Readings.{◌>>=◌}
use Rattle.constraint_rec.specs.HopReading.{is_empty, field_at, all_of, after_reserved, hop_in, as_from, as_to, hop_at, constraint_in, constraint_at, some_rules, rules_in}
use Rattle.wire_core.proofs.ReadingLemmas.{bind_ok}
use Rattle.constraint_rec.proofs.FieldLemmas.{guarded, empty_is, field_is, field_again, reserved_is, reserved_last, behind_string}
use Rattle.constraint_rec.proofs.SizeLemmas.{constraint_fits}
use Rattle.constraint_rec.proofs.ElementLemmas.{IsElement, elements_are, elements_again}
use Rattle.constraint_rec.proofs.HopLemmas.{hop_is, hop_again, from_is, from_again, to_is, to_again}

-- ---- a hop that is judged

-- such a hop stands in front of the rest
pub record IsJudged (Judged : Hop → Type 0) (bytes : List ℕ) (hop : Hop) (rest : List ℕ) : Type 0 where
  pub spelt : SpeltHop
  pub parts : bytes ≡ string (hop_text spelt) ++ rest
  pub left : IsBytes rest
  pub value : hop ≡ hop_of spelt
  pub judged : Judged hop

-- what is read is such a hop
judged_is : (judge : Hop → Result Hop TermFault) (Judged : Hop → Type 0) →
    ((hop good : Hop) → judge hop ≡ Ok good → All IsReadable hop.keys → (hop ≡ good) × Judged hop) →
    (bytes : List ℕ) (hop : Hop) (rest : List ℕ) → IsBytes bytes → hop_at judge bytes ≡ Ok (hop, rest) → IsJudged Judged bytes hop rest
judged_is judge Judged judges bytes hop rest small read =
    let a = bind_ok (field_at bytes) (λ field. hop_in field.0 >>= λ found. judge found >>= λ good. Ok (good, field.1)) (hop, rest) read in
    let b = bind_ok (hop_in a.0.0) (λ found. judge found >>= λ good. Ok (good, a.0.1)) (hop, rest) a.2 in
    let c = bind_ok (judge b.0) (λ good. Ok (good, a.0.1)) (hop, rest) b.2 in
    let field = field_is bytes a.0.0 a.0.1 small a.1 in
    let found = hop_is a.0.0 b.0 field.inside b.1 in
    let good = judges b.0 c.0 c.1 found.keys in
    let made : Hop × List ℕ = (c.0, a.0.1) in
    let same : made ≡ (hop, rest) = let e = c.2 in cc in
    let whole : b.0 ≡ hop = good.0 ∙ ap (λ (x : Hop × List ℕ). x.0) same in
    let after : a.0.1 ≡ rest = ap (λ (x : Hop × List ℕ). x.1) same in
    record {
      spelt = found.spelt;
      parts = field.parts ∙ ap (λ (text : List ℕ). string text ++ a.0.1) found.text ∙ ap (λ (tail : List ℕ). string (hop_text found.spelt) ++ tail) after;
      left = subst IsBytes after field.left;
      value = sym whole ∙ found.value;
      judged = subst Judged whole good.1;
    }

-- such a hop is read
judged_again : (judge : Hop → Result Hop TermFault) (hop : SpeltHop) (rest : List ℕ) → judge (hop_of hop) ≡ Ok (hop_of hop) →
    All IsReadable (hop_of hop).keys → length (hop_text hop) < 2 ^ 32 → hop_at judge (string (hop_text hop) ++ rest) ≡ Ok (hop_of hop, rest)
judged_again judge hop rest good keys short =
    ap (λ (r : Result (List ℕ × List ℕ) TermFault). r >>= λ field. hop_in field.0 >>= λ found. judge found >>= λ g. Ok (g, field.1)) (field_again (hop_text hop) rest short)
    ∙ ap (λ (r : Result Hop TermFault). r >>= λ found. judge found >>= λ g. Ok (g, rest)) (hop_again hop keys short)
    ∙ ap (λ (r : Result Hop TermFault). r >>= λ g. Ok (g, rest)) good

-- ---- a constraint

-- the bytes are a constraint
pub record IsConstraint (bytes : List ℕ) (constraint : Constraint) : Type 0 where
  pub spelt : SpeltConstraint
  pub text : bytes ≡ constraint_text spelt
  pub value : constraint ≡ constraint_of spelt
  pub good : IsDestination constraint

-- what is read is a constraint
constraint_is : (bytes : List ℕ) (constraint : Constraint) → IsBytes bytes → constraint_in bytes ≡ Ok constraint → IsConstraint bytes constraint
unfolding constraint_in
constraint_is bytes constraint small read =
    let made : Hop → Hop → List ℕ → Result Constraint TermFault = λ from to rest. cond (is_empty rest) (Ok (record { from = from; to = to })) (Err Short) in
    let a = bind_ok (hop_at as_from bytes) (λ from. hop_at as_to from.1 >>= λ to. after_reserved to.1 >>= λ rest. made from.0 to.0 rest) constraint read in
    let b = bind_ok (hop_at as_to a.0.1) (λ to. after_reserved to.1 >>= λ rest. made a.0.0 to.0 rest) constraint a.2 in
    let c = bind_ok (after_reserved b.0.1) (λ rest. made a.0.0 b.0.0 rest) constraint b.2 in
    let from = judged_is as_from IsFromHop from_is bytes a.0.0 a.0.1 small a.1 in
    let to = judged_is as_to IsToHop to_is a.0.1 b.0.0 b.0.1 from.left b.1 in
    let reserved = reserved_is b.0.1 c.0 to.left c.1 in
    let end = guarded (is_empty c.0) (Ok (record { from = a.0.0; to = b.0.0 })) constraint Short c.2 in
    let same : record { from = a.0.0; to = b.0.0 } ≡ constraint = let e = end.1 in cc in
    let last : b.0.1 ≡ string [] = reserved.parts ∙ ap (λ (tail : List ℕ). string [] ++ tail) (empty_is c.0 end.0) ∙ append-nil (string []) in
    record {
      spelt = record { from = from.spelt; to = to.spelt };
      text = from.parts ∙ ap (λ (tail : List ℕ). string (hop_text from.spelt) ++ tail) (to.parts ∙ ap (λ (tail : List ℕ). string (hop_text to.spelt) ++ tail) last);
      value = sym same ∙ ap (λ (hop : Hop). record { from = hop; to = b.0.0 }) from.value ∙ ap (λ (hop : Hop). record { from = hop_of from.spelt; to = hop }) to.value;
      good = subst IsDestination same (record { from = from.judged; to = to.judged });
    }

-- a constraint is read
constraint_again : (constraint : SpeltConstraint) → IsDestination (constraint_of constraint) → length (constraint_text constraint) < 2 ^ 32 →
    constraint_in (constraint_text constraint) ≡ Ok (constraint_of constraint)
unfolding constraint_in
constraint_again constraint is short =
    let fits = constraint_fits constraint short in
    let from = judged_again as_from constraint.from (string (hop_text constraint.to) ++ string []) (from_again (hop_of constraint.from) is.from) is.from.readable fits.from in
    let to = judged_again as_to constraint.to (string []) (to_again (hop_of constraint.to) is.to) is.to.readable fits.to in
    ap (λ (r : Result (Hop × List ℕ) TermFault). r >>= λ f. hop_at as_to f.1 >>= λ t. after_reserved t.1 >>= λ rest. cond (is_empty rest) (Ok (record { from = f.0; to = t.0 })) (Err Short)) from
    ∙ ap (λ (r : Result (Hop × List ℕ) TermFault). r >>= λ t. after_reserved t.1 >>= λ rest. cond (is_empty rest) (Ok (record { from = hop_of constraint.from; to = t.0 })) (Err Short)) to
    ∙ ap (λ (r : Result (List ℕ) TermFault). r >>= λ rest. cond (is_empty rest) (Ok (constraint_of constraint)) (Err Short)) reserved_last

-- a constraint as a string
abbrev pub framed : SpeltConstraint → List ℕ
framed constraint = string (constraint_text constraint)

-- what is read is a constraint as a string
framed_is : (bytes : List ℕ) (constraint : Constraint) (rest : List ℕ) → IsBytes bytes → constraint_at bytes ≡ Ok (constraint, rest) →
    IsElement framed constraint_of IsDestination bytes constraint rest
unfolding constraint_at
framed_is bytes constraint rest small read =
    let a = bind_ok (field_at bytes) (λ field. constraint_in field.0 >>= λ c. Ok (c, field.1)) (constraint, rest) read in
    let b = bind_ok (constraint_in a.0.0) (λ c. Ok (c, a.0.1)) (constraint, rest) a.2 in
    let field = field_is bytes a.0.0 a.0.1 small a.1 in
    let is = constraint_is a.0.0 b.0 field.inside b.1 in
    let made : Constraint × List ℕ = (b.0, a.0.1) in
    let same : made ≡ (constraint, rest) = let e = b.2 in cc in
    let whole : b.0 ≡ constraint = ap (λ (x : Constraint × List ℕ). x.0) same in
    let after : a.0.1 ≡ rest = ap (λ (x : Constraint × List ℕ). x.1) same in
    let parts : bytes ≡ framed is.spelt ++ rest =
    field.parts ∙ ap (λ (text : List ℕ). string text ++ a.0.1) is.text ∙ ap (λ (tail : List ℕ). framed is.spelt ++ tail) after in
    record {
      spelt = is.spelt;
      parts = parts;
      left = subst IsBytes after field.left;
      value = sym whole ∙ is.value;
      good = subst IsDestination whole is.good;
      shorter = behind_string bytes (constraint_text is.spelt) rest parts;
    }

-- a constraint as a string is read
framed_again : (constraint : SpeltConstraint) (rest : List ℕ) → IsDestination (constraint_of constraint) → length (framed constraint) < 2 ^ 32 →
    constraint_at (framed constraint ++ rest) ≡ Ok (constraint_of constraint, rest)
unfolding constraint_at
framed_again constraint rest is short =
    let small : length (constraint_text constraint) < 2 ^ 32 = omega (arith, length-string (constraint_text constraint)) in
    ap (λ (r : Result (List ℕ × List ℕ) TermFault). r >>= λ field. constraint_in field.0 >>= λ c. Ok (c, field.1)) (field_again (constraint_text constraint) rest small)
    ∙ ap (λ (r : Result Constraint TermFault). r >>= λ c. Ok (c, rest)) (constraint_again constraint is small)

-- ---- the list

-- constraints that were let through are some
some_is : (rules good : List Constraint) → some_rules rules ≡ Ok good → (rules ≡ good) × (good ≢ [])
some_is [] good read = absurd cc
some_is (rule ∷ rules) good read = let same : (rule ∷ rules) ≡ good = cc in (same, λ none. let e = same ∙ none in absurd cc)

-- some constraints are let through
some_again : (rules : List Constraint) → rules ≢ [] → some_rules rules ≡ Ok rules
some_again [] some = absurd (some refl)
some_again (rule ∷ rules) some = refl

-- the bytes are some constraints
pub record AreSome (bytes : List ℕ) (rules : List Constraint) : Type 0 where
  pub spelt : List SpeltConstraint
  pub text : bytes ≡ list_text spelt
  pub values : rules ≡ map constraint_of spelt
  pub good : All IsDestination rules
  pub some : rules ≢ []

-- what is read is some constraints
pub rules_are : (bytes : List ℕ) (rules : List Constraint) → IsBytes bytes → rules_in bytes ≡ Ok rules → AreSome bytes rules
unfolding rules_in
rules_are bytes rules small read =
    let a = bind_ok (all_of constraint_at bytes) some_rules rules read in
    let all = elements_are constraint_at framed constraint_of IsDestination framed_is bytes a.0 small a.1 in
    let some = some_is a.0 rules a.2 in
    record {
      spelt = all.spelt;
      text = all.parts;
      values = sym some.0 ∙ all.values;
      good = subst (All IsDestination) some.0 all.good;
      some = some.1;
    }

-- a constraint takes a byte at least
some_framed : (constraint : SpeltConstraint) → 1 ≤ length (framed constraint)
some_framed constraint = omega (arith, length-string (constraint_text constraint))

-- some constraints are read
pub rules_again : (rules : List SpeltConstraint) → All IsDestination (map constraint_of rules) → map constraint_of rules ≢ [] → length (list_text rules) < 2 ^ 32 →
    rules_in (list_text rules) ≡ Ok (map constraint_of rules)
unfolding rules_in
rules_again rules is some short =
    ap (λ (r : Result (List Constraint) TermFault). r >>= some_rules) (elements_again constraint_at framed constraint_of IsDestination some_framed framed_again rules is short)
    ∙ some_again (map constraint_of rules) some
