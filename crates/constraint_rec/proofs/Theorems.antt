-- The bytes that are read are those of the grammar, and the terms are theirs.
use Rattle.std.proofs.Common.{◌≡◌, ◌≢◌, ℕ, zero, suc, ◌+◌, ◌<◌, ◌≤◌, ◌⊎◌, inl, inr, Bool, true, false, cond, ◌||◌, List, [], ◌∷◌, ◌++◌, map, length, filter, All, Result, Ok, Err, refl, sym, ap, subst, ◌∙◌, arith, length-append}
use Rattle.std.specs.List.{flat_map}
use Rattle.std.proofs.lemmas.List.Elements.{All-head, All-tail, All-cons}
use Rattle.wire_text.specs.Wire.{IsBytes}
use Rattle.constraint_rec.specs.declared.fault.TermFault.{TermFault}
use Rattle.constraint_rec.specs.declared.fault.TermFault.TheVariants.{Memory}
use Rattle.constraint_rec.specs.declared.terms.Terms.{Terms}
use Rattle.constraint_rec.specs.Hops.{constraint_of}
use Rattle.constraint_rec.specs.Constraints.{no_terms, Item, Life, Confirmation, UseCount, Rules, Purposes, item_text, IsItem, is_alike, with_item, with_items, IsConstraints}
use Rattle.wire_core.specs.Readings.{◌>>=◌}
use Rattle.constraint_rec.specs.Reading.{has_kind, next_at, terms_up_to, terms_of}
use Rattle.constraint_rec.proofs.FieldLemmas.{nonempty_test}
use Rattle.constraint_rec.proofs.ReadingLemmas.{kind_of, unmapped, next_is, next_at-item}

-- each constraint is of a kind that the terms don't have when it is read
abbrev pub AreReadable : Terms → List Item → Type 0
AreReadable terms [] = Unit {0}
AreReadable terms (item ∷ items) =
    IsItem item × (has_kind terms (kind_of item) ≡ false) × AreReadable (with_item terms item) items

-- ---- what follows the terms so far

-- what is left gives, over the terms so far, what the whole gives
pub record GoesOn (whole : Result Terms TermFault) (terms : Terms) (left : List ℕ) : Type 0 where
  pub count : ℕ
  pub enough : length left ≤ count
  pub same : whole ≡ terms_up_to count terms left

-- at the start the whole is left
pub goes_on-start : (bytes : List ℕ) → GoesOn (terms_of bytes) no_terms bytes
unfolding terms_of
goes_on-start bytes = record { count = length bytes; enough = omega arith; same = refl }

-- where bytes are left, one more constraint is read
one_more : (count : ℕ) (whole : Result Terms TermFault) (terms : Terms) (left : List ℕ) (next : Result (Terms × List ℕ) TermFault) →
    length left ≤ count → left ≢ [] → whole ≡ terms_up_to count terms left → next_at terms left ≡ next →
    (before : ℕ) × (length left ≤ suc before) × (whole ≡ (next >>= λ read. terms_up_to before read.0 read.1))
unfolding terms_up_to
one_more count whole terms [] next enough some same read = absurd (some refl)
one_more zero whole terms (byte ∷ left) next enough some same read = absurd (omega arith)
one_more (suc before) whole terms (byte ∷ left) next enough some same read =
    (before, enough, same ∙ ap (λ (r : Result (Terms × List ℕ) TermFault). r >>= λ found. terms_up_to before found.0 found.1) read)

-- a constraint that is read is passed over
pub goes_on-next : (whole : Result Terms TermFault) (terms : Terms) (left : List ℕ) (after : Terms) (rest : List ℕ) →
    GoesOn whole terms left → left ≢ [] → length rest < length left → next_at terms left ≡ Ok (after, rest) → GoesOn whole after rest
goes_on-next whole terms left after rest so_far some shorter read =
    let more = one_more so_far.count whole terms left (Ok (after, rest)) so_far.enough some so_far.same read in
    record { count = more.0; enough = omega (arith, more.1); same = more.2 }

-- its fault is the whole's
pub goes_on-fault : (whole : Result Terms TermFault) (terms : Terms) (left : List ℕ) (fault : TermFault) →
    GoesOn whole terms left → left ≢ [] → (fault ≡ Memory) ⊎ (next_at terms left ≡ Err fault) → (fault ≡ Memory) ⊎ (whole ≡ Err fault)
goes_on-fault whole terms left fault so_far some (inl memory) = inl memory
goes_on-fault whole terms left fault so_far some (inr read) =
    inr (one_more so_far.count whole terms left (Err fault) so_far.enough some so_far.same read).2

-- no bytes are no constraints
none_left : (count : ℕ) (terms : Terms) → terms_up_to count terms [] ≡ Ok terms
unfolding terms_up_to
none_left zero terms = refl
none_left (suc count) terms = refl

-- where nothing is left, the terms so far are the whole's
pub goes_on-end : (whole : Result Terms TermFault) (terms : Terms) (left : List ℕ) → GoesOn whole terms left → left ≡ [] → whole ≡ Ok terms
goes_on-end whole terms left so_far empty =
    so_far.same ∙ ap (terms_up_to so_far.count terms) empty ∙ none_left so_far.count terms

-- ---- what is read is constraints

-- constraints that can be read over the terms so far, and the terms with them
pub record AreRead (terms : Terms) (bytes : List ℕ) (after : Terms) : Type 0 where
  pub items : List Item
  pub text : bytes ≡ flat_map item_text items
  pub readable : AreReadable terms items
  pub values : after ≡ with_items terms items

-- what is read in the end was read first
read_is : (next : Result (Terms × List ℕ) TermFault) (count : ℕ) (after : Terms) →
    (next >>= λ read. terms_up_to count read.0 read.1) ≡ Ok after →
    (read : Terms × List ℕ) × (next ≡ Ok read) × (terms_up_to count read.0 read.1 ≡ Ok after)
read_is (Ok read) count after all = (read, refl, all)
read_is (Err fault) count after all = absurd cc

-- a constraint takes a byte at least
some_text : (item : Item) → 1 ≤ length (item_text item)
some_text (Life seconds) = omega arith
some_text Confirmation = omega arith
some_text (UseCount uses) = omega arith
some_text (Rules rules) = omega arith
some_text (Purposes purposes) = omega arith

-- by the number of constraints
are_read : (count : ℕ) (terms : Terms) (bytes : List ℕ) (after : Terms) → IsBytes bytes → length bytes ≤ count →
    terms_up_to count terms bytes ≡ Ok after → AreRead terms bytes after
unfolding terms_up_to
are_read zero terms [] after small enough all =
    record { items = []; text = refl; readable = tt; values = cc }
are_read zero terms (byte ∷ bytes) after small enough all = absurd (omega arith)
are_read (suc count) terms [] after small enough all =
    record { items = []; text = refl; readable = tt; values = cc }
are_read (suc count) terms (byte ∷ bytes) after small enough all =
    let step = read_is (next_at terms (byte ∷ bytes)) count after all in
    let first = next_is terms (byte ∷ bytes) step.0.0 step.0.1 small step.1 in
    let size : length (byte ∷ bytes) ≡ length (item_text first.item) + length step.0.1 =
    ap length first.text ∙ length-append (item_text first.item) step.0.1 in
    let others = are_read count step.0.0 step.0.1 after first.left (omega (arith, size, some_text first.item)) step.2 in
    record {
      items = first.item ∷ others.items;
      text = first.text ∙ ap (λ (rest : List ℕ). item_text first.item ++ rest) others.text;
      readable = (first.fit, first.is_new, subst (λ (t : Terms). AreReadable t others.items) first.added others.readable);
      values = others.values ∙ ap (λ (t : Terms). with_items t others.items) first.added;
    }

-- a kind counts once where the terms have it
abbrev pub had : Terms → Item → ℕ
had terms item = cond (has_kind terms (kind_of item)) 1 0

-- how many of the constraints are of this one's kind
abbrev pub alike : Item → List Item → ℕ
alike item items = length (filter (is_alike item) items)

-- the terms have the kinds that they had, and the kind of what was added
has_kind-with : (terms : Terms) (item added : Item) → IsItem added →
    has_kind (with_item terms added) (kind_of item) ≡ (is_alike item added || has_kind terms (kind_of item))
has_kind-with terms (Life seconds) (Life others) fit = refl
has_kind-with terms (Life seconds) Confirmation fit = refl
has_kind-with terms (Life seconds) (UseCount uses) fit = refl
has_kind-with terms (Life seconds) (Rules rules) fit = refl
has_kind-with terms (Life seconds) (Purposes purposes) fit = refl
has_kind-with terms Confirmation (Life seconds) fit = refl
has_kind-with terms Confirmation Confirmation fit = refl
has_kind-with terms Confirmation (UseCount uses) fit = refl
has_kind-with terms Confirmation (Rules rules) fit = refl
has_kind-with terms Confirmation (Purposes purposes) fit = refl
has_kind-with terms (UseCount uses) (Life seconds) fit = refl
has_kind-with terms (UseCount uses) Confirmation fit = refl
has_kind-with terms (UseCount uses) (UseCount others) fit = refl
has_kind-with terms (UseCount uses) (Rules rules) fit = refl
has_kind-with terms (UseCount uses) (Purposes purposes) fit = refl
has_kind-with terms (Rules rules) (Life seconds) fit = refl
has_kind-with terms (Rules rules) Confirmation fit = refl
has_kind-with terms (Rules rules) (UseCount uses) fit = refl
has_kind-with terms (Rules rules) (Rules others) fit =
    rw (nonempty_test (map constraint_of others) (λ none. fit.some (unmapped others none))) refl
has_kind-with terms (Rules rules) (Purposes purposes) fit = refl
has_kind-with terms (Purposes purposes) (Life seconds) fit = refl
has_kind-with terms (Purposes purposes) Confirmation fit = refl
has_kind-with terms (Purposes purposes) (UseCount uses) fit = refl
has_kind-with terms (Purposes purposes) (Rules rules) fit = refl
has_kind-with terms (Purposes purposes) (Purposes others) fit = rw (nonempty_test others fit.some) refl

-- constraints that are alike have one kind
alike_kinds : (item other : Item) → is_alike item other ≡ true → kind_of item ≡ kind_of other
alike_kinds (Life seconds) (Life others) same = refl
alike_kinds (Life seconds) Confirmation same = absurd cc
alike_kinds (Life seconds) (UseCount uses) same = absurd cc
alike_kinds (Life seconds) (Rules rules) same = absurd cc
alike_kinds (Life seconds) (Purposes purposes) same = absurd cc
alike_kinds Confirmation (Life seconds) same = absurd cc
alike_kinds Confirmation Confirmation same = refl
alike_kinds Confirmation (UseCount uses) same = absurd cc
alike_kinds Confirmation (Rules rules) same = absurd cc
alike_kinds Confirmation (Purposes purposes) same = absurd cc
alike_kinds (UseCount uses) (Life seconds) same = absurd cc
alike_kinds (UseCount uses) Confirmation same = absurd cc
alike_kinds (UseCount uses) (UseCount others) same = refl
alike_kinds (UseCount uses) (Rules rules) same = absurd cc
alike_kinds (UseCount uses) (Purposes purposes) same = absurd cc
alike_kinds (Rules rules) (Life seconds) same = absurd cc
alike_kinds (Rules rules) Confirmation same = absurd cc
alike_kinds (Rules rules) (UseCount uses) same = absurd cc
alike_kinds (Rules rules) (Rules others) same = refl
alike_kinds (Rules rules) (Purposes purposes) same = absurd cc
alike_kinds (Purposes purposes) (Life seconds) same = absurd cc
alike_kinds (Purposes purposes) Confirmation same = absurd cc
alike_kinds (Purposes purposes) (UseCount uses) same = absurd cc
alike_kinds (Purposes purposes) (Rules rules) same = absurd cc
alike_kinds (Purposes purposes) (Purposes others) same = refl

-- a constraint is like itself
alike_itself : (item : Item) → is_alike item item ≡ true
alike_itself (Life seconds) = refl
alike_itself Confirmation = refl
alike_itself (UseCount uses) = refl
alike_itself (Rules rules) = refl
alike_itself (Purposes purposes) = refl

-- one more constraint of a new kind counts once
counted : (terms : Terms) (first item : Item) (items : List Item) (is : Bool) → IsItem first → is_alike item first ≡ is →
    has_kind terms (kind_of first) ≡ false → had (with_item terms first) item + alike item items ≤ 1 →
    had terms item + alike item (first ∷ items) ≤ 1
counted terms first item items true fit same is_new once =
    let both = has_kind-with terms item first fit in
    let kinds : has_kind terms (kind_of item) ≡ false = ap (has_kind terms) (alike_kinds item first same) ∙ is_new in
    let now : has_kind (with_item terms first) (kind_of item) ≡ true = both ∙ ap (λ (b : Bool). b || has_kind terms (kind_of item)) same in
    rw (same, kinds) (omega (arith, rw now at once))
counted terms first item items false fit same is_new once =
    let both : has_kind (with_item terms first) (kind_of item) ≡ has_kind terms (kind_of item) =
    has_kind-with terms item first fit ∙ ap (λ (b : Bool). b || has_kind terms (kind_of item)) same in
    rw same (rw both at once)

-- each kind counts once
once_each : (items : List Item) (terms : Terms) → AreReadable terms items → (item : Item) → had terms item + alike item items ≤ 1
once_each [] terms readable item = at_most (has_kind terms (kind_of item))
  where
    at_most : (b : Bool) → cond b 1 0 + 0 ≤ 1
    at_most true = omega arith
    at_most false = omega arith
once_each (first ∷ items) terms readable item =
    counted terms first item items (is_alike item first) readable.0 refl readable.1 (once_each items (with_item terms first) readable.2 item)

-- each constraint fits its fields
fit_each : (items : List Item) (terms : Terms) → AreReadable terms items → All IsItem items
fit_each [] terms readable = λ k d inside. absurd (omega arith)
fit_each (first ∷ items) terms readable = All-cons IsItem first items readable.0 (fit_each items (with_item terms first) readable.2)

-- what is read is constraints
pub terms_are_found : (bytes : List ℕ) (terms : Terms) → IsBytes bytes → terms_of bytes ≡ Ok terms → IsConstraints bytes terms
unfolding terms_of
terms_are_found bytes terms small read =
    let all = are_read (length bytes) no_terms bytes terms small (omega arith) read in
    record {
      items = all.items;
      text = all.text;
      fit = fit_each all.items no_terms all.readable;
      once = λ item. omega (arith, once_each all.items no_terms all.readable item);
      values = all.values;
    }

-- ---- constraints are read

-- without the first one, each kind still counts once
counted_back : (terms : Terms) (first item : Item) (items : List Item) (is has : Bool) → IsItem first → is_alike item first ≡ is →
    has_kind terms (kind_of item) ≡ has →
    had terms item + alike item (first ∷ items) ≤ 1 → had (with_item terms first) item + alike item items ≤ 1
counted_back terms first item items true has fit same had_it once =
    let now : has_kind (with_item terms first) (kind_of item) ≡ true =
    has_kind-with terms item first fit ∙ ap (λ (b : Bool). b || has_kind terms (kind_of item)) same in
    rw now (omega (arith, rw same at once))
counted_back terms first item items false has fit same had_it once =
    let both : has_kind (with_item terms first) (kind_of item) ≡ has_kind terms (kind_of item) =
    has_kind-with terms item first fit ∙ ap (λ (b : Bool). b || has_kind terms (kind_of item)) same in
    rw both (rw same at once)

-- the terms have no kind that is still to be read
is_first : (terms : Terms) (first : Item) (items : List Item) (has : Bool) → has_kind terms (kind_of first) ≡ has →
    had terms first + alike first (first ∷ items) ≤ 1 → has ≡ false
is_first terms first items true has once = absurd (omega (arith, rw (has, alike_itself first) at once))
is_first terms first items false has once = refl

-- constraints that fit and come once can be read
readable_each : (items : List Item) (terms : Terms) → All IsItem items → ((item : Item) → had terms item + alike item items ≤ 1) → AreReadable terms items
readable_each [] terms fit once = tt
readable_each (first ∷ items) terms fit once = (
  All-head IsItem first items fit,
  is_first terms first items (has_kind terms (kind_of first)) refl (once first),
  readable_each items (with_item terms first) (All-tail IsItem first items fit)
      (λ item. counted_back terms first item items (is_alike item first) (has_kind terms (kind_of item))
      (All-head IsItem first items fit) refl refl (once item)),
)

-- constraints that can be read are read
all_read : (items : List Item) (count : ℕ) (terms : Terms) → length (flat_map item_text items) ≤ count → AreReadable terms items →
    terms_up_to count terms (flat_map item_text items) ≡ Ok (with_items terms items)
all_read [] count terms enough readable = none_left count terms
all_read (first ∷ items) count terms enough readable =
    let size = length-append (item_text first) (flat_map item_text items) in
    let text : List ℕ = item_text first ++ flat_map item_text items in
    let some : text ≢ [] = λ e. omega (arith, ap length e, size, some_text first) in
    let more = one_more count (terms_up_to count terms text) terms text (Ok (with_item terms first, flat_map item_text items)) enough some refl
    (next_at-item terms first (flat_map item_text items) readable.0 readable.1) in
    more.2 ∙ all_read items more.0 (with_item terms first) (omega (arith, more.1, size, some_text first)) readable.2

-- constraints are read
pub terms_are_read : (bytes : List ℕ) (terms : Terms) → IsConstraints bytes terms → terms_of bytes ≡ Ok terms
unfolding terms_of
terms_are_read bytes terms is =
    let readable = readable_each is.items no_terms is.fit (λ item. none_had item (is.once item)) in
    subst (λ (text : List ℕ). terms_up_to (length text) no_terms text ≡ Ok terms) (sym is.text)
    (all_read is.items (length (flat_map item_text is.items)) no_terms (omega arith) readable ∙ ap (λ (t : Terms). Ok t) (sym is.values))
  where
    none_had : (item : Item) → alike item is.items ≤ 1 → had no_terms item + alike item is.items ≤ 1
    none_had (Life seconds) once = omega arith
    none_had Confirmation once = omega arith
    none_had (UseCount uses) once = omega arith
    none_had (Rules rules) once = omega arith
    none_had (Purposes purposes) once = omega arith
