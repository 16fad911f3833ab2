-- Facts of the table of types.
use Rattle.std.proofs.Common.{◌≡◌, ◌≢◌, ◌==◌, ℕ, ◌+◌, ◌-◌, ◌*◌, ◌^◌, ◌<◌, Bool, false, ◌||◌, List, [], ◌∷◌, length, get_or, drop, map, refl, sym, ap, subst, ◌∙◌, arith, lit<}
use Rattle.std.specs.Prelude.{◌↔◌, IsTrue, Contains}
use Rattle.std.specs.Borrow.{Bor}
use Rattle.std.specs.Int.{w8, leading_zeros}
use Rattle.std.specs.List.{list_any}
use Rattle.std.specs.Str.{bytes_eq}
use Rattle.std.proofs.lemmas.Bool.Decides.{nat_tests}
use Rattle.std.proofs.lemmas.List.{drop_more, length-drop}
use Rattle.std.proofs.lemmas.List.Folds.{Any-from_list_any, list_any-from_Any}
use Rattle.std.proofs.lemmas.Nat.{leading_le}
use Rattle.std.proofs.lemmas.Slice.Eq.{bytes_eq-Decides}
use Rattle.key_blob.specs.Digits.{digits_of}
use Rattle.key_blob.specs.declared.form.Form.{Form}
use Rattle.key_blob.specs.declared.form.Form.TheVariants.{Plain, Certified}
use Rattle.key_blob.specs.declared.kind.KeyKind.TheVariants.{Ed25519, Rsa, Nistp256, Nistp384, Nistp521, StandIn}
use Rattle.key_blob.specs.KeyTypes.{type_of}

-- a name is short enough for a string
pub name_is_short : (form : Form) → length (type_of form).name < 2 ^ 32
name_is_short (Plain Ed25519) = lit< tt
name_is_short (Plain Rsa) = lit< tt
name_is_short (Plain Nistp256) = lit< tt
name_is_short (Plain Nistp384) = lit< tt
name_is_short (Plain Nistp521) = lit< tt
name_is_short (Plain StandIn) = lit< tt
name_is_short (Certified Ed25519) = lit< tt
name_is_short (Certified Rsa) = lit< tt
name_is_short (Certified Nistp256) = lit< tt
name_is_short (Certified Nistp384) = lit< tt
name_is_short (Certified Nistp521) = lit< tt
name_is_short (Certified StandIn) = lit< tt

-- ---- whether a name is in a list

list_any-now : (names : List (Bor (List ℕ))) (name : List ℕ) →
    list_any (λ y. bytes_eq y.now name) names ≡ list_any (λ y. bytes_eq y name) (map (λ y. y.now) names)
list_any-now [] name = refl
list_any-now (y ∷ ys) name = ap (λ (b : Bool). bytes_eq y.now name || b) (list_any-now ys name)

-- the test finds the name exactly where it is there
pub is_tested : (names : List (List ℕ)) (name : List ℕ) (found : Bool) → found ≡ list_any (λ y. bytes_eq y name) names →
    IsTrue found ↔ Contains names name
is_tested names name found tested = (
  λ h.
      let any = Any-from_list_any (λ y. bytes_eq y name) names (sym tested ∙ h) in
      let same : any.1 ≡ name = (bytes_eq-Decides any.1 name).0 any.4 in
      (any.0, any.2, subst (λ (y : List ℕ). get_or names any.0 y ≡ y) same any.3),
  λ has. tested ∙ list_any-from_Any (λ y. bytes_eq y name) names (has.0, name, has.1, has.2, (bytes_eq-Decides name name).1 refl),
)

-- the same of a name in front, which it is not, and of names behind references
pub is_tested_behind : (first name : List ℕ) (others : List (Bor (List ℕ))) (found : Bool) → false ≡ bytes_eq first name →
    found ≡ list_any (λ y. bytes_eq y.now name) others → IsTrue found ↔ Contains (first ∷ map (λ y. y.now) others) name
is_tested_behind first name others found not_first tested =
    is_tested (first ∷ map (λ y. y.now) others) name found
    (tested ∙ list_any-now others name ∙ ap (λ (b : Bool). b || list_any (λ y. bytes_eq y name) (map (λ y. y.now) others)) not_first)

-- ---- digits

-- the first byte that is not zero tells the number of digits
pub digits_of-from : (bytes : List ℕ) (i total : ℕ) → i < length bytes → get_or bytes i 0 ≢ 0 → digits_of (drop i bytes) ≡ total →
    8 * (length bytes - i) - leading_zeros w8 (get_or bytes i 0) ≡ total
digits_of-from bytes i total inside some so_far =
    let byte = get_or bytes i 0 in
    let here : digits_of (byte ∷ drop (i + 1) bytes) ≡ total = ap digits_of (sym (drop_more bytes i 0 inside)) ∙ so_far in
    let test : (byte == 0) ≡ false = grind (arith, nat_tests) in
    let digits : 8 - leading_zeros w8 byte + 8 * length (drop (i + 1) bytes) ≡ total = rw test at here in
    omega (arith, digits, leading_le 8 byte, length-drop (i + 1) bytes)
