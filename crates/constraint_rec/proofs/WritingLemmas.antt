-- What is written is in the grammar and says the terms, and what is read can be written.
use Rattle.std.proofs.Common.{◌≡◌, ℕ, ◌+◌, ◌^◌, ◌<◌, ◌≤◌, Bool, true, false, cond, List, [], ◌∷◌, ◌++◌, map, length, filter, All, Option, Some, None, IfSome, refl, sym, ap, subst, ◌∙◌, arith, length-append}
use Rattle.std.specs.List.{flat_map}
use Rattle.std.proofs.lemmas.List.Elements.{All-nil, All-cons, All-head, All-tail, All-append, filter-append}
use Rattle.std.proofs.lemmas.Grind.{flat_map-append}
use Rattle.wire_text.specs.Wire.{boolean_of}
use Rattle.constraint_rec.specs.declared.key_spec.KeySpec.{KeySpec}
use Rattle.constraint_rec.specs.declared.constraint.Hop.{Hop}
use Rattle.constraint_rec.specs.declared.constraint.Constraint.{Constraint}
use Rattle.constraint_rec.specs.declared.terms.Terms.{Terms}
use Rattle.constraint_rec.specs.Hops.{list_text, key_of, hop_of, constraint_of, IsDestination}
use Rattle.constraint_rec.specs.Constraints.{no_terms, Item, Life, Confirmation, UseCount, Rules, Purposes, AreRules, IsUseCount, item_text, IsItem, is_alike, with_item, with_items, IsConstraints}
use Rattle.constraint_rec.proofs.SizeLemmas.{list_len}
use Rattle.constraint_rec.specs.Writing.{is_ca_byte, spelt_key, spelt_hop, spelt_constraint, life_items, confirm_items, use_items, rule_items, purpose_items, items_of, constraints_bytes, IsWritable, AreNamed}
use Rattle.key_purposes.specs.declared.purpose.Purpose.{Purpose}

-- ---- what is spelled says what was to be said

byte_says : (authority : Bool) → boolean_of (is_ca_byte authority) ≡ authority
byte_says true = refl
byte_says false = refl

keys_say : (keys : List KeySpec) → map key_of (map spelt_key keys) ≡ keys
keys_say [] = refl
keys_say (key ∷ keys) =
    ap (λ (authority : Bool). record { blob = key.blob; authority = authority } ∷ map key_of (map spelt_key keys)) (byte_says key.authority)
    ∙ ap (λ (list : List KeySpec). key ∷ list) (keys_say keys)

hop_says : (hop : Hop) → hop_of (spelt_hop hop) ≡ hop
hop_says hop = ap (λ (list : List KeySpec). record { user = hop.user; host = hop.host; keys = list }) (keys_say hop.keys)

pub rules_say : (rules : List Constraint) → map constraint_of (map spelt_constraint rules) ≡ rules
rules_say [] = refl
rules_say (rule ∷ rules) =
    ap (λ (from : Hop). record { from = from; to = hop_of (spelt_hop rule.to) } ∷ map constraint_of (map spelt_constraint rules)) (hop_says rule.from)
    ∙ ap (λ (to : Hop). record { from = rule.from; to = to } ∷ map constraint_of (map spelt_constraint rules)) (hop_says rule.to)
    ∙ ap (λ (list : List Constraint). rule ∷ list) (rules_say rules)

-- ---- the text of terms

-- the text in five parts
pub constraints_in_parts : (terms : Terms) → constraints_bytes terms
    ≡ flat_map item_text (life_items terms.life) ++ (flat_map item_text (confirm_items terms.confirm)
    ++ (flat_map item_text (use_items terms.uses) ++ (flat_map item_text (rule_items terms.rules) ++ flat_map item_text (purpose_items terms.purposes))))
unfolding constraints_bytes
constraints_in_parts terms =
    let own : List Item = rule_items terms.rules ++ purpose_items terms.purposes in
    let last : List Item = use_items terms.uses ++ own in
    flat_map-append item_text (life_items terms.life) (confirm_items terms.confirm ++ last)
    ∙ ap (λ (tail : List ℕ). flat_map item_text (life_items terms.life) ++ tail)
    (flat_map-append item_text (confirm_items terms.confirm) last
    ∙ ap (λ (tail : List ℕ). flat_map item_text (confirm_items terms.confirm) ++ tail)
    (flat_map-append item_text (use_items terms.uses) own
    ∙ ap (λ (tail : List ℕ). flat_map item_text (use_items terms.uses) ++ tail)
    (flat_map-append item_text (rule_items terms.rules) (purpose_items terms.purposes))))

-- the destination constraints that are written are some that fit
rules_fit : (rule : Constraint) (rules : List Constraint) → All IsDestination (rule ∷ rules) → length (list_text (map spelt_constraint (rule ∷ rules))) < 2 ^ 32 →
    AreRules (map spelt_constraint (rule ∷ rules))
rules_fit rule rules good short =
    record { some = λ none. absurd cc; each = subst (All IsDestination) (sym (rules_say (rule ∷ rules))) good; short = short }

-- ---- one constraint of each kind

-- each fits
life_fits : (life : Option ℕ) → IfSome life (λ s. s < 2 ^ 32) → All IsItem (life_items life)
life_fits None short = All-nil IsItem
life_fits (Some seconds) short = All-cons IsItem (Life seconds) [] short (All-nil IsItem)

confirm_fits : (confirm : Bool) → All IsItem (confirm_items confirm)
confirm_fits true = All-cons IsItem Confirmation [] tt (All-nil IsItem)
confirm_fits false = All-nil IsItem

uses_fit : (uses : Option ℕ) → IfSome uses IsUseCount → All IsItem (use_items uses)
uses_fit None fit = All-nil IsItem
uses_fit (Some uses) fit = All-cons IsItem (UseCount uses) [] fit (All-nil IsItem)

each_rule_fits : (rules : List Constraint) → All IsDestination rules → length (list_text (map spelt_constraint rules)) < 2 ^ 32 → All IsItem (rule_items rules)
each_rule_fits [] good fits = All-nil IsItem
each_rule_fits (rule ∷ rules) good fits =
    All-cons IsItem (Rules (map spelt_constraint (rule ∷ rules))) [] (rules_fit rule rules good fits) (All-nil IsItem)

purposes_fit : (purposes : List Purpose) → AreNamed purposes → All IsItem (purpose_items purposes)
purposes_fit [] named = All-nil IsItem
purposes_fit (purpose ∷ purposes) named = All-cons IsItem (Purposes (purpose ∷ purposes)) [] (named (λ none. absurd cc)) (All-nil IsItem)

items_fit : (terms : Terms) → IsWritable terms → IfSome terms.life (λ s. s < 2 ^ 32) → All IsItem (items_of terms)
items_fit terms is life =
    All-append IsItem (life_items terms.life) _ (life_fits terms.life life)
    (All-append IsItem (confirm_items terms.confirm) _ (confirm_fits terms.confirm)
    (All-append IsItem (use_items terms.uses) _ (uses_fit terms.uses is.uses)
    (All-append IsItem (rule_items terms.rules) _ (each_rule_fits terms.rules is.rules is.short) (purposes_fit terms.purposes is.purposes))))

-- how many of the constraints are of this one's kind
abbrev alike : Item → List Item → ℕ
alike item items = length (filter (is_alike item) items)

alike-append : (item : Item) (xs ys : List Item) → alike item (xs ++ ys) ≡ alike item xs + alike item ys
alike-append item xs ys =
    ap length (filter-append (is_alike item) xs ys) ∙ length-append (filter (is_alike item) xs) (filter (is_alike item) ys)

-- one of these comes at most once, and only where it is of its own kind
abbrev once : Item → Item → ℕ
once item own = cond (is_alike item own) 1 0

life_once : (life : Option ℕ) (item : Item) → alike item (life_items life) ≤ once item (Life 0)
life_once None item = omega arith
life_once (Some n) (Life s) = omega arith
life_once (Some n) Confirmation = omega arith
life_once (Some n) (UseCount u) = omega arith
life_once (Some n) (Rules r) = omega arith
life_once (Some n) (Purposes p) = omega arith

confirm_once : (confirm : Bool) (item : Item) → alike item (confirm_items confirm) ≤ once item Confirmation
confirm_once false item = omega arith
confirm_once true (Life s) = omega arith
confirm_once true Confirmation = omega arith
confirm_once true (UseCount u) = omega arith
confirm_once true (Rules r) = omega arith
confirm_once true (Purposes p) = omega arith

uses_once : (uses : Option ℕ) (item : Item) → alike item (use_items uses) ≤ once item (UseCount 1)
uses_once None item = omega arith
uses_once (Some n) (Life s) = omega arith
uses_once (Some n) Confirmation = omega arith
uses_once (Some n) (UseCount u) = omega arith
uses_once (Some n) (Rules r) = omega arith
uses_once (Some n) (Purposes p) = omega arith

rules_once : (rules : List Constraint) (item : Item) → alike item (rule_items rules) ≤ once item (Rules [])
rules_once [] item = omega arith
rules_once (rule ∷ rules) (Life s) = omega arith
rules_once (rule ∷ rules) Confirmation = omega arith
rules_once (rule ∷ rules) (UseCount u) = omega arith
rules_once (rule ∷ rules) (Rules r) = omega arith
rules_once (rule ∷ rules) (Purposes p) = omega arith

purposes_once : (purposes : List Purpose) (item : Item) → alike item (purpose_items purposes) ≤ once item (Purposes [])
purposes_once [] item = omega arith
purposes_once (purpose ∷ purposes) (Life s) = omega arith
purposes_once (purpose ∷ purposes) Confirmation = omega arith
purposes_once (purpose ∷ purposes) (UseCount u) = omega arith
purposes_once (purpose ∷ purposes) (Rules r) = omega arith
purposes_once (purpose ∷ purposes) (Purposes p) = omega arith

-- it is of one kind
one_kind : (item : Item) → once item (Life 0) + (once item Confirmation + (once item (UseCount 1) + (once item (Rules []) + once item (Purposes [])))) ≡ 1
one_kind (Life s) = refl
one_kind Confirmation = refl
one_kind (UseCount u) = refl
one_kind (Rules r) = refl
one_kind (Purposes p) = refl

-- none comes twice
items_once : (terms : Terms) (item : Item) → alike item (items_of terms) ≤ 1
items_once terms item =
    let own : List Item = rule_items terms.rules ++ purpose_items terms.purposes in
    let last : List Item = use_items terms.uses ++ own in
    let a = alike-append item (life_items terms.life) (confirm_items terms.confirm ++ last) in
    let b = alike-append item (confirm_items terms.confirm) last in
    let c = alike-append item (use_items terms.uses) own in
    let d = alike-append item (rule_items terms.rules) (purpose_items terms.purposes) in
    omega (
      arith,
      a,
      b,
      c,
      d,
      life_once terms.life item,
      confirm_once terms.confirm item,
      uses_once terms.uses item,
      rules_once terms.rules item,
      purposes_once terms.purposes item,
      one_kind item,
    )

-- terms of these five
abbrev five : Option ℕ → Bool → Option ℕ → List Constraint → List Purpose → Terms
five life confirm uses rules purposes = record { life = life; confirm = confirm; uses = uses; rules = rules; purposes = purposes }

-- each says what it was made from, whatever follows
life_says : (life : Option ℕ) (items : List Item) → with_items no_terms (life_items life ++ items) ≡ with_items (five life false None [] []) items
life_says None items = refl
life_says (Some n) items = refl

confirm_says : (life : Option ℕ) (confirm : Bool) (items : List Item) →
    with_items (five life false None [] []) (confirm_items confirm ++ items) ≡ with_items (five life confirm None [] []) items
confirm_says life true items = refl
confirm_says life false items = refl

uses_say : (life : Option ℕ) (confirm : Bool) (uses : Option ℕ) (items : List Item) →
    with_items (five life confirm None [] []) (use_items uses ++ items) ≡ with_items (five life confirm uses [] []) items
uses_say life confirm None items = refl
uses_say life confirm (Some n) items = refl

constraints_say : (life : Option ℕ) (confirm : Bool) (uses : Option ℕ) (rules : List Constraint) (items : List Item) →
    with_items (five life confirm uses [] []) (rule_items rules ++ items) ≡ with_items (five life confirm uses rules []) items
constraints_say life confirm uses [] items = refl
constraints_say life confirm uses (rule ∷ rules) items =
    ap (λ (list : List Constraint). with_items (five life confirm uses list []) items) (rules_say (rule ∷ rules))

last_say : (life : Option ℕ) (confirm : Bool) (uses : Option ℕ) (rules : List Constraint) (purposes : List Purpose) →
    with_items (five life confirm uses rules []) (purpose_items purposes) ≡ five life confirm uses rules purposes
last_say life confirm uses rules [] = refl
last_say life confirm uses rules (purpose ∷ purposes) = refl

-- they say the terms
items_say : (terms : Terms) → with_items no_terms (items_of terms) ≡ terms
items_say terms =
    let own : List Item = rule_items terms.rules ++ purpose_items terms.purposes in
    let last : List Item = use_items terms.uses ++ own in
    life_says terms.life (confirm_items terms.confirm ++ last) ∙ confirm_says terms.life terms.confirm last
    ∙ uses_say terms.life terms.confirm terms.uses own
    ∙ constraints_say terms.life terms.confirm terms.uses terms.rules (purpose_items terms.purposes)
    ∙ last_say terms.life terms.confirm terms.uses terms.rules terms.purposes

-- what is written is constraints
pub written_are_constraints : (terms : Terms) → IsWritable terms → IfSome terms.life (λ s. s < 2 ^ 32) → IsConstraints (constraints_bytes terms) terms
unfolding constraints_bytes
written_are_constraints terms is life =
    record {
      items = items_of terms;
      text = refl;
      fit = items_fit terms is life;
      once = items_once terms;
      values = sym (items_say terms);
    }

-- ---- what was read can be written

with_item_writable : (terms : Terms) (item : Item) → IsItem item → IsWritable terms → IsWritable (with_item terms item)
with_item_writable terms (Life seconds) fit is = record { uses = is.uses; rules = is.rules; purposes = is.purposes; short = is.short }
with_item_writable terms Confirmation fit is = record { uses = is.uses; rules = is.rules; purposes = is.purposes; short = is.short }
with_item_writable terms (UseCount uses) fit is = record { uses = fit; rules = is.rules; purposes = is.purposes; short = is.short }
with_item_writable terms (Rules rules) fit is = record { uses = is.uses; rules = fit.each; purposes = is.purposes; short = omega (arith, fit.short, list_len rules) }
with_item_writable terms (Purposes purposes) fit is = record { uses = is.uses; rules = is.rules; purposes = λ some. fit; short = is.short }

with_items_writable : (items : List Item) (terms : Terms) → All IsItem items → IsWritable terms → IsWritable (with_items terms items)
with_items_writable [] terms fit is = is
with_items_writable (item ∷ items) terms fit is =
    with_items_writable items (with_item terms item) (All-tail IsItem item items fit)
    (with_item_writable terms item (All-head IsItem item items fit) is)

-- constraints can be written
pub constraints_are_writable : (bytes : List ℕ) (terms : Terms) → IsConstraints bytes terms → IsWritable terms
constraints_are_writable bytes terms is =
    subst IsWritable (sym is.values) (with_items_writable is.items no_terms is.fit (record { uses = tt; rules = All-nil IsDestination; purposes = λ some. absurd (some refl); short = omega arith }))
