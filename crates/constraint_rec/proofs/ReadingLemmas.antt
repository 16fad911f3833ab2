-- Reading one constraint: what is read is a constraint in front of what follows, and a constraint is read.
use Rattle.std.proofs.Common.{◌≡◌, ◌≢◌, ℕ, zero, suc, ◌^◌, ◌<◌, ◌≤◌, Bool, true, false, cond, eqb, List, [], ◌∷◌, ◌++◌, map, length, All, Option, Some, None, Result, Ok, Err, refl, sym, ap, subst, ◌∙◌, append_assoc, arith, lit<}
use Rattle.std.proofs.lemmas.Bool.{eqb-true, ne_eqb}
use Rattle.std.specs.Option.{ok_or}
use Rattle.std.specs.Str.{bytes_eq}
use Rattle.std.proofs.lemmas.Slice.Eq.{bytes_eq-Decides}
use Rattle.std.proofs.lemmas.List.Elements.{All-tail}
use Rattle.wire_text.specs.Wire.{IsBytes, string, uint32}
use Rattle.wire_core.specs.Fields.{uint32_at}
use Rattle.wire_core.proofs.Theorems.{uint32_at-uint32, uint32_is_front}
use Rattle.constraint_rec.specs.declared.fault.TermFault.{TermFault}
use Rattle.constraint_rec.specs.declared.fault.TermFault.TheVariants.{Short, Unknown, Twice, NoUses}
use Rattle.constraint_rec.specs.declared.kind.Kind.{Kind}
use Rattle.constraint_rec.specs.declared.kind.Kind.TheVariants.{Lifetime, Confirm, Uses, Destinations, Purposes as ForPurposes}
use Rattle.constraint_rec.specs.declared.terms.Terms.{Terms}
use Rattle.constraint_rec.specs.declared.constraint.Constraint.{Constraint}
use Rattle.constraint_rec.specs.Hops.{SpeltConstraint, list_text, constraint_of, IsDestination}
use Rattle.constraint_rec.specs.Constraints.{Item, Life, Confirmation, UseCount, Rules, Purposes, purposes_name, purposes_text, restrict_destination, uses_name, AreRules, IsUseCount, item_text, IsItem, with_item}
use Rattle.wire_core.specs.Readings.{◌>>=◌}
use Rattle.constraint_rec.specs.HopReading.{field_at, rules_in}
use Rattle.constraint_rec.specs.Reading.{kind_named, extension_at, kind_at, has_kind, with_life, some_uses, with_uses, with_rules, with_purposes, contents_at, new_contents_at, next_at}
use Rattle.wire_core.proofs.ReadingLemmas.{bind_ok}
use Rattle.constraint_rec.proofs.FieldLemmas.{unguarded, field_is, field_again}
use Rattle.constraint_rec.proofs.DestinationLemmas.{rules_are, rules_again}
use Rattle.constraint_rec.proofs.PurposeLemmas.{purposes_again, purposes_are, text_is_short}
use Rattle.constraint_rec.specs.PurposeReading.{purposes_in}
use Rattle.key_purposes.specs.Purposes.{ArePurposes, word_of}
use Rattle.key_purposes.specs.declared.purpose.Purpose.{Purpose}

-- the kind of a constraint
abbrev pub kind_of : Item → Kind
kind_of (Life seconds) = Lifetime
kind_of Confirmation = Confirm
kind_of (UseCount uses) = Uses
kind_of (Rules rules) = Destinations
kind_of (Purposes purposes) = ForPurposes

-- a constraint that the terms have none of the kind of stands in front of the rest
pub record IsNext (terms : Terms) (bytes : List ℕ) (after : Terms) (rest : List ℕ) : Type 0 where
  pub item : Item
  pub text : bytes ≡ item_text item ++ rest
  pub left : IsBytes rest
  pub fit : IsItem item
  pub is_new : has_kind terms (kind_of item) ≡ false
  pub added : after ≡ with_item terms item

-- where there is no fault, the number is there
number_read : (o : Option (ℕ × List ℕ)) (terms after : Terms) (rest : List ℕ) →
    (ok_or o Short >>= with_life terms) ≡ Ok (after, rest) →
    (seconds : ℕ) × (o ≡ Some (seconds, rest)) × (after ≡ with_item terms (Life seconds))
number_read None terms after rest read = absurd cc
number_read (Some found) terms after rest read =
    let whole : Terms × List ℕ = (record terms { life = Some found.0 }, found.1) in
    let same : whole ≡ (after, rest) = cc in
    (found.0, ap (λ (x : Terms × List ℕ). Some (found.0, x.1)) same, ap (λ (x : Terms × List ℕ). x.0) (sym same))

-- a lifetime is read from its contents
lifetime_is : (terms : Terms) (bytes : List ℕ) (after : Terms) (rest : List ℕ) → IsBytes bytes →
    new_contents_at terms (Lifetime, bytes) ≡ Ok (after, rest) → IsNext terms (1 ∷ bytes) after rest
unfolding contents_at
lifetime_is terms bytes after rest small read =
    let open_ = unguarded (has_kind terms Lifetime) (contents_at Lifetime terms bytes) (after, rest) Twice read in
    let number = number_read (uint32_at bytes) terms after rest open_.1 in
    let front = uint32_is_front bytes number.0 rest small number.1 in
    record {
      item = Life number.0;
      text = ap (λ (tail : List ℕ). 1 ∷ tail) front.0.parts;
      left = front.0.left;
      fit = front.1;
      is_new = open_.0;
      added = number.2;
    }

-- confirmation is read from no contents
confirm_is : (terms : Terms) (bytes : List ℕ) (after : Terms) (rest : List ℕ) → IsBytes bytes →
    new_contents_at terms (Confirm, bytes) ≡ Ok (after, rest) → IsNext terms (2 ∷ bytes) after rest
unfolding contents_at
confirm_is terms bytes after rest small read =
    let open_ = unguarded (has_kind terms Confirm) (contents_at Confirm terms bytes) (after, rest) Twice read in
    let whole : Terms × List ℕ = (record terms { confirm = true }, bytes) in
    let same : whole ≡ (after, rest) = cc in
    record {
      item = Confirmation;
      text = ap (λ (x : Terms × List ℕ). 2 ∷ x.1) same;
      left = subst IsBytes (ap (λ (x : Terms × List ℕ). x.1) same) small;
      fit = tt;
      is_new = open_.0;
      added = ap (λ (x : Terms × List ℕ). x.0) (sym same);
    }

-- destination constraints are read from a name and contents
rules_are_next : (terms : Terms) (bytes contents : List ℕ) (after : Terms) (rest : List ℕ) → bytes ≡ string restrict_destination ++ contents → IsBytes contents →
    new_contents_at terms (Destinations, contents) ≡ Ok (after, rest) → IsNext terms (255 ∷ bytes) after rest
unfolding contents_at
rules_are_next terms bytes contents after rest named small read =
    let open_ = unguarded (has_kind terms Destinations) (contents_at Destinations terms contents) (after, rest) Twice read in
    let text = bind_ok (field_at contents) (with_rules terms) (after, rest) open_.1 in
    let rules = bind_ok (rules_in text.0.0) (λ rules. Ok (record terms { rules = rules }, text.0.1)) (after, rest) text.2 in
    let inner = field_is contents text.0.0 text.0.1 small text.1 in
    let is = rules_are text.0.0 rules.0 inner.inside rules.1 in
    let whole : Terms × List ℕ = (record terms { rules = rules.0 }, text.0.1) in
    let same : whole ≡ (after, rest) = let e = rules.2 in cc in
    let behind : text.0.1 ≡ rest = ap (λ (x : Terms × List ℕ). x.1) same in
    let listed : contents ≡ string (list_text is.spelt) ++ rest =
    inner.parts ∙ ap (λ (list : List ℕ). string list ++ text.0.1) is.text ∙ ap (λ (tail : List ℕ). string (list_text is.spelt) ++ tail) behind in
    record {
      item = Rules is.spelt;
      text = ap (λ (tail : List ℕ). 255 ∷ tail) (named ∙ ap (λ (tail : List ℕ). string restrict_destination ++ tail) listed
          ∙ sym (append_assoc (string restrict_destination) (string (list_text is.spelt)) rest));
      left = subst IsBytes behind inner.left;
      fit = record {
        some = λ none. is.some (is.values ∙ ap (map constraint_of) none);
        each = subst (All IsDestination) is.values is.good;
        short = subst (λ (list : List ℕ). length list < 2 ^ 32) is.text inner.short;
      };
      is_new = open_.0;
      added = ap (λ (x : Terms × List ℕ). x.0) (sym same) ∙ ap (λ (list : List Constraint). record terms { rules = list }) is.values;
    }

-- where there is no fault, the number is there, and it isn't 0
uses_read : (o : Option (ℕ × List ℕ)) (terms after : Terms) (rest : List ℕ) →
    ((ok_or o Short >>= some_uses) >>= with_uses terms) ≡ Ok (after, rest) →
    (uses : ℕ) × (o ≡ Some (uses, rest)) × (eqb uses 0 ≡ false) × (after ≡ with_item terms (UseCount uses))
uses_read None terms after rest read = absurd cc
uses_read (Some found) terms after rest read =
    let number = bind_ok (some_uses found) (with_uses terms) (after, rest) read in
    let some = unguarded (eqb found.0 0) (Ok found) number.0 NoUses number.1 in
    let kept : found ≡ number.0 = let e = some.1 in cc in
    let whole : Terms × List ℕ = (record terms { uses = Some number.0.0 }, number.0.1) in
    let same : whole ≡ (after, rest) = let e = number.2 in cc in
    let behind : found.1 ≡ rest = ap (λ (x : ℕ × List ℕ). x.1) kept ∙ ap (λ (x : Terms × List ℕ). x.1) same in (
      found.0,
      ap (λ (left : List ℕ). Some (found.0, left)) behind,
      some.0,
      ap (λ (x : Terms × List ℕ). x.0) (sym same) ∙ ap (λ (x : ℕ × List ℕ). record terms { uses = Some x.0 }) (sym kept),
    )

-- a number that isn't 0 is at least 1
at_least_one : (number : ℕ) → eqb number 0 ≡ false → 1 ≤ number
at_least_one zero test = absurd cc
at_least_one (suc number) test = omega arith

-- a number of uses is read from a name and contents
uses_are_next : (terms : Terms) (bytes contents : List ℕ) (after : Terms) (rest : List ℕ) → bytes ≡ string uses_name ++ contents → IsBytes contents →
    new_contents_at terms (Uses, contents) ≡ Ok (after, rest) → IsNext terms (255 ∷ bytes) after rest
unfolding contents_at
uses_are_next terms bytes contents after rest named small read =
    let open_ = unguarded (has_kind terms Uses) (contents_at Uses terms contents) (after, rest) Twice read in
    let number = uses_read (uint32_at contents) terms after rest open_.1 in
    let front = uint32_is_front contents number.0 rest small number.1 in
    record {
      item = UseCount number.0;
      text = ap (λ (tail : List ℕ). 255 ∷ tail) (named ∙ ap (λ (tail : List ℕ). string uses_name ++ tail) front.0.parts
          ∙ sym (append_assoc (string uses_name) (uint32 number.0) rest));
      left = front.0.left;
      fit = record { some = at_least_one number.0 number.2; short = front.1 };
      is_new = open_.0;
      added = number.3;
    }

-- purposes are read from a name and contents
purposes_are_next : (terms : Terms) (bytes contents : List ℕ) (after : Terms) (rest : List ℕ) → bytes ≡ string purposes_name ++ contents → IsBytes contents →
    new_contents_at terms (ForPurposes, contents) ≡ Ok (after, rest) → IsNext terms (255 ∷ bytes) after rest
unfolding contents_at
purposes_are_next terms bytes contents after rest named small read =
    let open_ = unguarded (has_kind terms ForPurposes) (contents_at ForPurposes terms contents) (after, rest) Twice read in
    let text = bind_ok (field_at contents) (with_purposes terms) (after, rest) open_.1 in
    let purposes = bind_ok (purposes_in text.0.0) (λ purposes. Ok (record terms { purposes = purposes }, text.0.1)) (after, rest) text.2 in
    let inner = field_is contents text.0.0 text.0.1 small text.1 in
    let is = purposes_are text.0.0 purposes.0 inner.inside purposes.1 in
    let whole : Terms × List ℕ = (record terms { purposes = purposes.0 }, text.0.1) in
    let same : whole ≡ (after, rest) = let e = purposes.2 in cc in
    let behind : text.0.1 ≡ rest = ap (λ (x : Terms × List ℕ). x.1) same in
    let listed : contents ≡ string (purposes_text purposes.0) ++ rest =
    inner.parts ∙ ap (λ (list : List ℕ). string list ++ text.0.1) is.text ∙ ap (λ (tail : List ℕ). string (purposes_text purposes.0) ++ tail) behind in
    record {
      item = Purposes purposes.0;
      text = ap (λ (tail : List ℕ). 255 ∷ tail) (named ∙ ap (λ (tail : List ℕ). string purposes_name ++ tail) listed
          ∙ sym (append_assoc (string purposes_name) (string (purposes_text purposes.0)) rest));
      left = subst IsBytes behind inner.left;
      fit = is.are;
      is_new = open_.0;
      added = ap (λ (x : Terms × List ℕ). x.0) (sym same);
    }

-- by the name of the extension
extension_by_name : (terms : Terms) (bytes name contents : List ℕ) (after : Terms) (rest : List ℕ) (is_rules is_uses is_purposes : Bool) →
    bytes_eq name restrict_destination ≡ is_rules → bytes_eq name uses_name ≡ is_uses → bytes_eq name purposes_name ≡ is_purposes → bytes ≡ string name ++ contents → IsBytes contents →
    (cond is_rules (Ok (Destinations, contents)) (cond is_uses (Ok (Uses, contents)) (cond is_purposes (Ok (ForPurposes, contents)) (Err Unknown))) >>= new_contents_at terms) ≡ Ok (after, rest) →
    IsNext terms (255 ∷ bytes) after rest
extension_by_name terms bytes name contents after rest true is_uses is_purposes rules uses purposes parts small read =
    let known : name ≡ restrict_destination = (bytes_eq-Decides name restrict_destination).0 rules in
    rules_are_next terms bytes contents after rest (parts ∙ ap (λ (n : List ℕ). string n ++ contents) known) small read
extension_by_name terms bytes name contents after rest false true is_purposes rules uses purposes parts small read =
    let known : name ≡ uses_name = (bytes_eq-Decides name uses_name).0 uses in
    uses_are_next terms bytes contents after rest (parts ∙ ap (λ (n : List ℕ). string n ++ contents) known) small read
extension_by_name terms bytes name contents after rest false false true rules uses purposes parts small read =
    let known : name ≡ purposes_name = (bytes_eq-Decides name purposes_name).0 purposes in
    purposes_are_next terms bytes contents after rest (parts ∙ ap (λ (n : List ℕ). string n ++ contents) known) small read
extension_by_name terms bytes name contents after rest false false false rules uses purposes parts small read = absurd cc

-- an extension is read from a name and contents
extension_is_next : (terms : Terms) (bytes : List ℕ) (after : Terms) (rest : List ℕ) → IsBytes bytes →
    (extension_at bytes >>= new_contents_at terms) ≡ Ok (after, rest) → IsNext terms (255 ∷ bytes) after rest
extension_is_next terms bytes after rest small read =
    let kind = bind_ok (extension_at bytes) (new_contents_at terms) (after, rest) read in
    let name = bind_ok (field_at bytes) kind_named kind.0 kind.1 in
    let front = field_is bytes name.0.0 name.0.1 small name.1 in
    extension_by_name terms bytes name.0.0 name.0.1 after rest (bytes_eq name.0.0 restrict_destination) (bytes_eq name.0.0 uses_name) (bytes_eq name.0.0 purposes_name) refl refl refl
    front.parts front.left (ap (λ (r : Result (Kind × List ℕ) TermFault). r >>= new_contents_at terms) name.2 ∙ kind.2)

-- by the byte at the front
next_by_byte : (terms : Terms) (byte : ℕ) (bytes : List ℕ) (after : Terms) (rest : List ℕ) (is_one is_two is_last : Bool) →
    eqb byte 1 ≡ is_one → eqb byte 2 ≡ is_two → eqb byte 255 ≡ is_last → IsBytes bytes →
    (cond is_one (Ok (Lifetime, bytes)) (cond is_two (Ok (Confirm, bytes)) (cond is_last (extension_at bytes) (Err Unknown))) >>= new_contents_at terms) ≡ Ok (after, rest) →
    IsNext terms (byte ∷ bytes) after rest
next_by_byte terms byte bytes after rest true is_two is_last one two last small read =
    subst (λ (b : ℕ). IsNext terms (b ∷ bytes) after rest) (sym (eqb-true byte 1 one)) (lifetime_is terms bytes after rest small read)
next_by_byte terms byte bytes after rest false true is_last one two last small read =
    subst (λ (b : ℕ). IsNext terms (b ∷ bytes) after rest) (sym (eqb-true byte 2 two)) (confirm_is terms bytes after rest small read)
next_by_byte terms byte bytes after rest false false true one two last small read =
    subst (λ (b : ℕ). IsNext terms (b ∷ bytes) after rest) (sym (eqb-true byte 255 last)) (extension_is_next terms bytes after rest small read)
next_by_byte terms byte bytes after rest false false false one two last small read = absurd cc

-- what is read is a constraint
pub next_is : (terms : Terms) (bytes : List ℕ) (after : Terms) (rest : List ℕ) → IsBytes bytes →
    next_at terms bytes ≡ Ok (after, rest) → IsNext terms bytes after rest
unfolding next_at kind_at
next_is terms [] after rest small read = absurd cc
next_is terms (byte ∷ bytes) after rest small read =
    next_by_byte terms byte bytes after rest (eqb byte 1) (eqb byte 2) (eqb byte 255) refl refl refl (All-tail (λ b. b < 256) byte bytes small) read

-- the names are short
pub name_is_short : length restrict_destination < 2 ^ 32
unfolding restrict_destination
name_is_short = lit< tt

pub uses_name_is_short : length uses_name < 2 ^ 32
unfolding uses_name
uses_name_is_short = lit< tt

pub purposes_name_is_short : length purposes_name < 2 ^ 32
unfolding purposes_name
purposes_name_is_short = lit< tt

-- the names differ
purposes_no_rules : bytes_eq purposes_name restrict_destination ≡ false
unfolding purposes_name restrict_destination
purposes_no_rules = refl

purposes_no_uses : bytes_eq purposes_name uses_name ≡ false
unfolding purposes_name uses_name
purposes_no_uses = refl

names_differ : bytes_eq uses_name restrict_destination ≡ false
unfolding uses_name restrict_destination
names_differ = refl

-- an extension of the one name holds destination constraints
named_again : (rest : List ℕ) → extension_at (string restrict_destination ++ rest) ≡ Ok (Destinations, rest)
named_again rest =
    ap (λ (r : Result (List ℕ × List ℕ) TermFault). r >>= kind_named) (field_again restrict_destination rest name_is_short)
    ∙ rw ((bytes_eq-Decides restrict_destination restrict_destination).1 refl) refl

-- an extension of the other name holds a number of uses
uses_named_again : (rest : List ℕ) → extension_at (string uses_name ++ rest) ≡ Ok (Uses, rest)
uses_named_again rest =
    ap (λ (r : Result (List ℕ × List ℕ) TermFault). r >>= kind_named) (field_again uses_name rest uses_name_is_short)
    ∙ rw (names_differ, (bytes_eq-Decides uses_name uses_name).1 refl) refl

-- an extension of the third name holds purposes
purposes_named_again : (rest : List ℕ) → extension_at (string purposes_name ++ rest) ≡ Ok (ForPurposes, rest)
purposes_named_again rest =
    ap (λ (r : Result (List ℕ × List ℕ) TermFault). r >>= kind_named) (field_again purposes_name rest purposes_name_is_short)
    ∙ rw (purposes_no_rules, purposes_no_uses, (bytes_eq-Decides purposes_name purposes_name).1 refl) refl

-- only no elements are seen as none
pub unmapped : (rules : List SpeltConstraint) → map constraint_of rules ≡ [] → rules ≡ []
unmapped [] none = refl
unmapped (rule ∷ rules) none = absurd cc

-- contents that are some destination constraints are read
contents_again : (terms : Terms) (rules : List SpeltConstraint) (rest : List ℕ) → AreRules rules →
    contents_at Destinations terms (string (list_text rules) ++ rest) ≡ Ok (with_item terms (Rules rules), rest)
unfolding contents_at
contents_again terms rules rest is =
    let some : map constraint_of rules ≢ [] = λ none. is.some (unmapped rules none) in
    ap (λ (r : Result (List ℕ × List ℕ) TermFault). r >>= with_rules terms) (field_again (list_text rules) rest is.short)
    ∙ ap (λ (r : Result (List Constraint) TermFault). r >>= λ list. Ok (record terms { rules = list }, rest)) (rules_again rules is.each some is.short)

-- contents that are a number of uses are read
uses_again : (terms : Terms) (uses : ℕ) (rest : List ℕ) → IsUseCount uses →
    contents_at Uses terms (uint32 uses ++ rest) ≡ Ok (with_item terms (UseCount uses), rest)
unfolding contents_at
uses_again terms uses rest is =
    let some : eqb uses 0 ≡ false = ne_eqb uses 0 (λ none. omega (arith, none, is.some)) in
    rw (uint32_at-uint32 uses rest is.short, some) refl

-- contents that are purposes are read
purposes_read : (terms : Terms) (purposes : List Purpose) (rest : List ℕ) → ArePurposes (map word_of purposes) purposes →
    contents_at ForPurposes terms (string (purposes_text purposes) ++ rest) ≡ Ok (with_item terms (Purposes purposes), rest)
unfolding contents_at
purposes_read terms purposes rest is =
    ap (λ (r : Result (List ℕ × List ℕ) TermFault). r >>= with_purposes terms) (field_again (purposes_text purposes) rest (text_is_short purposes is))
    ∙ ap (λ (r : Result (List Purpose) TermFault). r >>= λ list. Ok (record terms { purposes = list }, rest)) (purposes_again purposes is)

-- a constraint is read
pub next_at-item : (terms : Terms) (item : Item) (rest : List ℕ) → IsItem item → has_kind terms (kind_of item) ≡ false →
    next_at terms (item_text item ++ rest) ≡ Ok (with_item terms item, rest)
unfolding next_at kind_at contents_at
next_at-item terms (Life seconds) rest fit is_new = rw (is_new, uint32_at-uint32 seconds rest fit) refl
next_at-item terms Confirmation rest fit is_new = rw is_new refl
next_at-item terms (UseCount uses) rest fit is_new =
    ap (λ (tail : List ℕ). extension_at tail >>= new_contents_at terms) (append_assoc (string uses_name) (uint32 uses) rest)
    ∙ ap (λ (r : Result (Kind × List ℕ) TermFault). r >>= new_contents_at terms) (uses_named_again (uint32 uses ++ rest))
    ∙ ap (λ (b : Bool). cond b (Err Twice) (contents_at Uses terms (uint32 uses ++ rest))) is_new
    ∙ uses_again terms uses rest fit
next_at-item terms (Rules rules) rest fit is_new =
    ap (λ (tail : List ℕ). extension_at tail >>= new_contents_at terms) (append_assoc (string restrict_destination) (string (list_text rules)) rest)
    ∙ ap (λ (r : Result (Kind × List ℕ) TermFault). r >>= new_contents_at terms) (named_again (string (list_text rules) ++ rest))
    ∙ ap (λ (b : Bool). cond b (Err Twice) (contents_at Destinations terms (string (list_text rules) ++ rest))) is_new
    ∙ contents_again terms rules rest fit
next_at-item terms (Purposes purposes) rest fit is_new =
    ap (λ (tail : List ℕ). extension_at tail >>= new_contents_at terms) (append_assoc (string purposes_name) (string (purposes_text purposes)) rest)
    ∙ ap (λ (r : Result (Kind × List ℕ) TermFault). r >>= new_contents_at terms) (purposes_named_again (string (purposes_text purposes) ++ rest))
    ∙ ap (λ (b : Bool). cond b (Err Twice) (contents_at ForPurposes terms (string (purposes_text purposes) ++ rest))) is_new
    ∙ purposes_read terms purposes rest fit
