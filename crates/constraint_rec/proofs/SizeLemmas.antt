-- Lengths of what is written, and parts appended one after another.
use Rattle.std.proofs.Common.{◌≡◌, ℕ, ◌+◌, ◌^◌, ◌<◌, ◌≤◌, List, [], ◌∷◌, ◌++◌, map, length, get_or, refl, sym, ap, ◌∙◌, arith, length-append, append_assoc}
use Rattle.std.specs.List.{flat_map}
use Rattle.std.proofs.lemmas.List.Folds.{length-flat_map-take}
use Rattle.wire_text.specs.Wire.{string, boolean_of}
use Rattle.wire_text.proofs.WireLemmas.{length-string}
use Rattle.constraint_rec.specs.Hops.{SpeltKey, SpeltHop, SpeltConstraint, key_text, hop_text, constraint_text, list_text, key_of, hop_of, constraint_of}
use Rattle.constraint_rec.specs.Writing.{is_ca_byte, spelt_key, spelt_hop, spelt_constraint}

-- ---- parts of a text

-- a piece is no longer than all pieces
pub piece_fits : {X : Type 0} (f : X → List ℕ) (xs : List X) (i : ℕ) (x : X) → i < length xs → x ≡ get_or xs i x → length (f x) ≤ length (flat_map f xs)
piece_fits f xs i x inside is =
    let size = length-flat_map-take f xs i x inside in
    let same : length (f x) ≡ length (f (get_or xs i x)) = ap (λ y. length (f y)) is in
    omega (arith, size, same)

-- the texts in a hop are shorter than the hop
pub record HopFits (hop : SpeltHop) : Type 0 where
  pub user : length hop.user < 2 ^ 32
  pub host : length hop.host < 2 ^ 32
  pub keys : length (flat_map key_text hop.keys) < 2 ^ 32

pub hop_fits : (hop : SpeltHop) → length (hop_text hop) < 2 ^ 32 → HopFits hop
hop_fits hop short =
    let keys : List ℕ = flat_map key_text hop.keys in
    let a : length (hop_text hop) ≡ length (string hop.user) + length (string hop.host ++ (string [] ++ keys)) = length-append (string hop.user) (string hop.host ++ (string [] ++ keys)) in
    let b : length (string hop.host ++ (string [] ++ keys)) ≡ length (string hop.host) + length (string [] ++ keys) = length-append (string hop.host) (string [] ++ keys) in
    let c : length (string [] ++ keys) ≡ length (string []) + length keys = length-append (string []) keys in
    record { user = omega (arith, length-string hop.user); host = omega (arith, length-string hop.host); keys = omega arith }

-- the hops in a constraint are shorter than the constraint
pub record ConstraintFits (constraint : SpeltConstraint) : Type 0 where
  pub from : length (hop_text constraint.from) < 2 ^ 32
  pub to : length (hop_text constraint.to) < 2 ^ 32

pub constraint_fits : (constraint : SpeltConstraint) → length (constraint_text constraint) < 2 ^ 32 → ConstraintFits constraint
constraint_fits constraint short =
    let from_text : List ℕ = hop_text constraint.from in
    let to_text : List ℕ = hop_text constraint.to in
    let a : length (constraint_text constraint) ≡ length (string from_text) + length (string to_text ++ string []) = length-append (string from_text) (string to_text ++ string []) in
    let b : length (string to_text ++ string []) ≡ length (string to_text) + length (string []) = length-append (string to_text) (string []) in
    record { from = omega (arith, length-string from_text); to = omega (arith, length-string to_text) }

-- ---- lengths are kept where what was read is written

behind_same : (front x y : List ℕ) → length x ≡ length y → length (front ++ x) ≡ length (front ++ y)
behind_same front x y same = length-append front x ∙ ap (λ (n : ℕ). length front + n) same ∙ sym (length-append front y)

string_same : (x y : List ℕ) → length x ≡ length y → length (string x) ≡ length (string y)
string_same x y same = length-string x ∙ ap (λ (n : ℕ). 4 + n) same ∙ sym (length-string y)

joined_same : (a b x y : List ℕ) → length a ≡ length b → length x ≡ length y → length (a ++ x) ≡ length (b ++ y)
joined_same a b x y front behind = omega (arith, length-append a x, length-append b y)

keys_len : (keys : List SpeltKey) → length (flat_map key_text (map spelt_key (map key_of keys))) ≡ length (flat_map key_text keys)
keys_len [] = refl
keys_len (key ∷ keys) =
    joined_same (key_text (spelt_key (key_of key))) (key_text key) (flat_map key_text (map spelt_key (map key_of keys))) (flat_map key_text keys)
    (behind_same (string key.blob) (is_ca_byte (boolean_of key.is_ca) ∷ []) (key.is_ca ∷ []) refl) (keys_len keys)

hop_len : (hop : SpeltHop) → length (hop_text (spelt_hop (hop_of hop))) ≡ length (hop_text hop)
hop_len hop =
    let old : List ℕ = flat_map key_text hop.keys in
    let new : List ℕ = flat_map key_text (map spelt_key (map key_of hop.keys)) in
    behind_same (string hop.user) (string hop.host ++ (string [] ++ new)) (string hop.host ++ (string [] ++ old))
    (behind_same (string hop.host) (string [] ++ new) (string [] ++ old) (behind_same (string []) new old (keys_len hop.keys)))

constraint_len : (constraint : SpeltConstraint) → length (constraint_text (spelt_constraint (constraint_of constraint))) ≡ length (constraint_text constraint)
constraint_len constraint =
    let from : List ℕ = hop_text (spelt_hop (hop_of constraint.from)) in
    let to : List ℕ = hop_text (spelt_hop (hop_of constraint.to)) in
    joined_same (string from) (string (hop_text constraint.from)) (string to ++ string []) (string (hop_text constraint.to) ++ string [])
    (string_same from (hop_text constraint.from) (hop_len constraint.from))
    (joined_same (string to) (string (hop_text constraint.to)) (string []) (string []) (string_same to (hop_text constraint.to) (hop_len constraint.to)) refl)

pub list_len : (rules : List SpeltConstraint) → length (list_text (map spelt_constraint (map constraint_of rules))) ≡ length (list_text rules)
list_len [] = refl
list_len (rule ∷ rules) =
    joined_same (string (constraint_text (spelt_constraint (constraint_of rule)))) (string (constraint_text rule))
    (list_text (map spelt_constraint (map constraint_of rules))) (list_text rules)
    (string_same (constraint_text (spelt_constraint (constraint_of rule))) (constraint_text rule) (constraint_len rule)) (list_len rules)

-- ---- one appended after another

-- three parts
pub three_parts : (start first second third a b c : List ℕ) → start ≡ [] → first ≡ start ++ a → second ≡ first ++ b → third ≡ second ++ c →
    third ≡ a ++ (b ++ c)
three_parts start first second third a b c none one two three =
    three ∙ ap (λ (s : List ℕ). s ++ c) (two ∙ ap (λ (s : List ℕ). s ++ b) (one ∙ ap (λ (s : List ℕ). s ++ a) none)) ∙ append_assoc a b c

-- four parts
pub four_parts : (start first second third fourth a b c d : List ℕ) → start ≡ [] → first ≡ start ++ a → second ≡ first ++ b → third ≡ second ++ c →
    fourth ≡ third ++ d → fourth ≡ a ++ (b ++ (c ++ d))
four_parts start first second third fourth a b c d none one two three four =
    four ∙ ap (λ (s : List ℕ). s ++ d) (three_parts start first second third a b c none one two three)
    ∙ append_assoc a (b ++ c) d ∙ ap (λ (s : List ℕ). a ++ s) (append_assoc b c d)

-- five parts
pub five_parts : (start first second third fourth fifth a b c d e : List ℕ) → start ≡ [] → first ≡ start ++ a → second ≡ first ++ b → third ≡ second ++ c →
    fourth ≡ third ++ d → fifth ≡ fourth ++ e → fifth ≡ a ++ (b ++ (c ++ (d ++ e)))
five_parts start first second third fourth fifth a b c d e none one two three four five =
    five ∙ ap (λ (s : List ℕ). s ++ e) (four_parts start first second third fourth a b c d none one two three four)
    ∙ append_assoc a (b ++ (c ++ d)) e ∙ ap (λ (s : List ℕ). a ++ s) (append_assoc b (c ++ d) e ∙ ap (λ (s : List ℕ). b ++ s) (append_assoc c d e))
