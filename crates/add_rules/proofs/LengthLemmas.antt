-- Lengths of what is written, by its parts.
use Rattle.std.proofs.Common.{◌≡◌, ◌<◌, ◌≤◌, ◌+◌, ◌^◌, ℕ, List, [], ◌∷◌, ◌++◌, map, take, length, get_or, Some, refl, sym, ap, ◌∙◌, arith, length-append}
use Rattle.std.specs.List.{flat_map}
use Rattle.std.proofs.lemmas.List.{take_more, take_all, flat_map_more}
use Rattle.std.proofs.lemmas.List.Folds.{flat_map-map}
use Rattle.wire_text.specs.Wire.{string, uint32}
use Rattle.wire_text.proofs.WireLemmas.{length-string, length-uint32}
use Rattle.constraint_rec.specs.declared.key_spec.KeySpec.{KeySpec}
use Rattle.constraint_rec.specs.declared.constraint.Hop.{Hop}
use Rattle.constraint_rec.specs.declared.constraint.Constraint.{Constraint}
use Rattle.constraint_rec.specs.declared.terms.Terms.{Terms}
use Rattle.constraint_rec.specs.Constraints.{item_text, purposes_name, purposes_text, restrict_destination, uses_name}
use Rattle.key_purposes.specs.declared.purpose.Purpose.{Purpose}
use Rattle.constraint_rec.specs.Hops.{key_text, hop_text, constraint_text, list_text}
use Rattle.constraint_rec.specs.Writing.{is_ca_byte, spelt_key, spelt_hop, spelt_constraint, life_items, confirm_items, use_items, rule_items, purpose_items, constraints_bytes, IsWritable, MeetsRules}
use Rattle.constraint_rec.proofs.WritingLemmas.{constraints_in_parts}

-- one part more
pub one_more : {X : Type 0} (f : X → List ℕ) (xs : List X) (i : ℕ) (d : X) → i < length xs
    → length (flat_map f (take (i + 1) xs)) ≡ length (flat_map f (take i xs)) + length (f (get_or xs i d))
one_more f xs i d within =
    ap (λ l. length (flat_map f l)) (take_more xs i d within)
    ∙ sym (ap length (flat_map_more f [] (take i xs) (get_or xs i d)))
    ∙ length-append (flat_map f (take i xs)) (f (get_or xs i d))

-- a key
pub length-key : (key : KeySpec) → length (key_text (spelt_key key)) ≡ length key.blob + 5
length-key key = omega (arith, length-append (string key.blob) (is_ca_byte key.authority ∷ []), length-string key.blob)

-- a key's text
abbrev pub key_bytes : KeySpec → List ℕ
key_bytes key = key_text (spelt_key key)

-- a hop
pub length-hop : (hop : Hop)
    → length (hop_text (spelt_hop hop)) ≡ length hop.user + length hop.host + length (flat_map key_bytes hop.keys) + 12
length-hop hop =
    let keys : List ℕ = flat_map key_text (map spelt_key hop.keys) in
    omega (
      arith,
      ap length (flat_map-map key_text spelt_key hop.keys),
      length-append (string hop.user) (string hop.host ++ (string [] ++ keys)),
      length-append (string hop.host) (string [] ++ keys),
      length-append (string []) keys,
      length-string hop.user,
      length-string hop.host,
      length-string [],
    )

-- a constraint
pub length-rule : (rule : Constraint) → length (constraint_text (spelt_constraint rule))
    ≡ length (hop_text (spelt_hop rule.from)) + length (hop_text (spelt_hop rule.to)) + 12
length-rule rule =
    let from : List ℕ = hop_text (spelt_hop rule.from) in
    let to : List ℕ = hop_text (spelt_hop rule.to) in
    omega (
      arith,
      length-append (string from) (string to ++ string []),
      length-append (string to) (string []),
      length-string from,
      length-string to,
      length-string [],
    )

-- a constraint's text, with its length
abbrev pub rule_bytes : Constraint → List ℕ
rule_bytes rule = string (constraint_text (spelt_constraint rule))

-- all constraints, where so many are all
pub list_of : (rules : List Constraint) (n : ℕ) → length rules ≤ n
    → flat_map rule_bytes (take n rules) ≡ list_text (map spelt_constraint rules)
list_of rules n all =
    ap (flat_map rule_bytes) (take_all n rules all) ∙ sym (flat_map-map (λ rule. string (constraint_text rule)) spelt_constraint rules)

-- the extension's name
length-name : length restrict_destination ≡ 36
unfolding restrict_destination
length-name = refl

-- the extension, where it is there
pub length-rules : (rule : Constraint) (rules : List Constraint)
    → length (flat_map item_text (rule_items (rule ∷ rules))) ≡ length (list_text (map spelt_constraint (rule ∷ rules))) + 45
length-rules rule rules =
    let text : List ℕ = list_text (map spelt_constraint (rule ∷ rules)) in
    omega (
      arith,
      length-append (string restrict_destination ++ string text) [],
      length-append (string restrict_destination) (string text),
      length-string restrict_destination,
      length-string text,
      length-name,
    )

pub some_rules : (rules : List Constraint) → 0 < length rules
    → length (flat_map item_text (rule_items rules)) ≡ length (list_text (map spelt_constraint rules)) + 45
some_rules [] some = absurd (omega (arith, some))
some_rules (rule ∷ rules) some = length-rules rule rules

pub length-life : (seconds : ℕ) → length (flat_map item_text (life_items (Some seconds))) ≡ 5
length-life seconds = omega (arith, length-append (uint32 seconds) [], length-uint32 seconds)

-- the name of the extension that holds a number of uses
length-uses_name : length uses_name ≡ 20
unfolding uses_name
length-uses_name = refl

pub length-uses : (uses : ℕ) → length (flat_map item_text (use_items (Some uses))) ≡ 29
length-uses uses =
    omega (
      arith,
      length-append (string uses_name ++ uint32 uses) [],
      length-append (string uses_name) (uint32 uses),
      length-string uses_name,
      length-uint32 uses,
      length-uses_name,
    )

-- the name of the extension that holds purposes
length-purposes_name : length purposes_name ≡ 24
unfolding purposes_name
length-purposes_name = refl

length-purposes : (purpose : Purpose) (purposes : List Purpose)
    → length (flat_map item_text (purpose_items (purpose ∷ purposes))) ≡ length (purposes_text (purpose ∷ purposes)) + 33
length-purposes purpose purposes =
    let text : List ℕ = purposes_text (purpose ∷ purposes) in
    omega (
      arith,
      length-append (string purposes_name ++ string text) [],
      length-append (string purposes_name) (string text),
      length-string purposes_name,
      length-string text,
      length-purposes_name,
    )

pub some_purposes : (purposes : List Purpose) → 0 < length purposes
    → length (flat_map item_text (purpose_items purposes)) ≡ length (purposes_text purposes) + 33
some_purposes [] some = absurd (omega (arith, some))
some_purposes (purpose ∷ purposes) some = length-purposes purpose purposes

-- all constraints
pub length-constraints : (terms : Terms) → length (constraints_bytes terms)
    ≡ length (flat_map item_text (life_items terms.life)) + length (flat_map item_text (confirm_items terms.confirm))
    + length (flat_map item_text (use_items terms.uses)) + length (flat_map item_text (rule_items terms.rules))
    + length (flat_map item_text (purpose_items terms.purposes))
length-constraints terms =
    let life : List ℕ = flat_map item_text (life_items terms.life) in
    let confirm : List ℕ = flat_map item_text (confirm_items terms.confirm) in
    let uses : List ℕ = flat_map item_text (use_items terms.uses) in
    let rules : List ℕ = flat_map item_text (rule_items terms.rules) in
    let purposes : List ℕ = flat_map item_text (purpose_items terms.purposes) in
    omega (
      arith,
      ap length (constraints_in_parts terms),
      length-append life (confirm ++ (uses ++ (rules ++ purposes))),
      length-append confirm (uses ++ (rules ++ purposes)),
      length-append uses (rules ++ purposes),
      length-append rules purposes,
    )

list_within : (rules : List Constraint)
    → length (list_text (map spelt_constraint rules)) ≤ length (flat_map item_text (rule_items rules))
list_within [] = omega arith
list_within (rule ∷ rules) = omega (arith, length-rules rule rules)

-- constraints that aren't too long can be written
pub short_writable : (terms : Terms) → MeetsRules terms → length (constraints_bytes terms) < 2 ^ 32
    → IsWritable terms
short_writable terms meets short = record { uses = meets.uses; rules = meets.rules; purposes = meets.purposes; short = omega (arith, list_within terms.rules, length-constraints terms) }
