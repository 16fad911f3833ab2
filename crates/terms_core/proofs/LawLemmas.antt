-- Lemmas on what additions become.
use Rattle.std.proofs.Common.{◌≡◌, ◌∙◌, ℕ, Bool, false, List, [], ◌∷◌, ◌++◌, All, refl, sym, ap, append_assoc, if◌then◌else◌}
use Rattle.std.specs.List.{flat_map}
use Rattle.std.proofs.lemmas.List.Concat.{flat_map-append}
use Rattle.std.proofs.lemmas.List.Elements.{All-append}
use Rattle.agent_msg.specs.Requests.{Addition, IsConstrainedAddition, IsPlainAddition}
use Rattle.constraint_rec.specs.Constraints.{IsConstraints, IsItem, Item, item_text, no_terms, with_item, with_items}
use Rattle.constraint_rec.specs.declared.terms.Terms.{Terms}
use Rattle.terms_core.specs.Additions.{adds, with_terms}
use Rattle.terms_core.specs.Laws.{AreOnce}
use Rattle.wire_text.specs.Wire.{string}

-- some constraints are added to terms, and then others
with_items-append : (terms : Terms) (xs ys : List Item) → with_items terms (xs ++ ys) ≡ with_items (with_items terms xs) ys
with_items-append terms [] ys = refl
with_items-append terms (item ∷ xs) ys = with_items-append (with_item terms item) xs ys

-- constraints, and others of other kinds behind them
constraints-append : (bytes more : List ℕ) (terms : Terms) (own : List Item)
    → (given : IsConstraints bytes terms) → more ≡ flat_map item_text own → All IsItem own → AreOnce (given.items ++ own)
    → IsConstraints (bytes ++ more) (with_items terms own)
constraints-append bytes more terms own given text fit once = record {
  items = given.items ++ own;
  text = ap (λ (b : List ℕ). b ++ more) given.text ∙ ap (λ (m : List ℕ). flat_map item_text given.items ++ m) text
      ∙ sym (flat_map-append item_text given.items own);
  fit = All-append IsItem given.items own given.fit fit;
  once = once;
  values = ap (λ (t : Terms). with_items t own) given.values ∙ sym (with_items-append no_terms given.items own);
}

-- an addition without constraints
pub plain_becomes : (terms body : List ℕ) (own : Terms) (addition : Addition)
    → IsPlainAddition body addition → IsConstraints terms own
    → IsConstrainedAddition (with_terms terms body) (record addition { terms = own })
plain_becomes terms body own addition given are = record {
  key = given.key;
  comment_fits = given.comment_fits;
  constraints = terms;
  constrained = are;
  printed = ap (with_terms terms) given.printed
      ∙ ap (λ (fields : List ℕ). 25 ∷ fields) (append_assoc addition.key.private (string addition.comment) terms);
}

-- an addition with constraints
pub constrained_becomes : (terms body : List ℕ) (own : List Item) (addition : Addition)
    → (given : IsConstrainedAddition body addition)
    → terms ≡ flat_map item_text own → All IsItem own → AreOnce (given.constrained.items ++ own)
    → IsConstrainedAddition (with_terms terms body) (record addition { terms = with_items addition.terms own })
constrained_becomes terms body own addition given text fit once = record {
  key = given.key;
  comment_fits = given.comment_fits;
  constraints = given.constraints ++ terms;
  constrained = constraints-append given.constraints terms addition.terms own given.constrained text fit once;
  printed = ap (with_terms terms) given.printed
      ∙ ap (λ (fields : List ℕ). 25 ∷ fields)
      (append_assoc addition.key.private (string addition.comment ++ given.constraints) terms
      ∙ ap (λ (rest : List ℕ). addition.key.private ++ rest) (append_assoc (string addition.comment) given.constraints terms));
}

-- any other request
pub other_stays : (terms fields : List ℕ) (number : ℕ) → adds number ≡ false → with_terms terms (number ∷ fields) ≡ number ∷ fields
other_stays terms fields number is = ap (λ (b : Bool). if b then 25 ∷ (fields ++ terms) else number ∷ fields) is
