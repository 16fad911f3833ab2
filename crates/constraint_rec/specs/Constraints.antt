-- Constraints of an added key as bytes (draft-miller-ssh-agent, "Key Constraints"; OpenSSH's PROTOCOL.agent,
-- "restrict-destination-v00@openssh.com key constraint extension"). That none comes twice is OpenSSH's rule.
-- The number of uses and the purposes are ours (docs/PROTOCOL.md, "Constraints").
use Rattle.std.specs.Prelude.{◌≡◌, ◌≢◌, ℕ, ◌^◌, ◌<◌, ◌≤◌, Bool, true, false, List, [], ◌∷◌, ◌++◌, map, codes, length, filter, All, Some, None}
use Rattle.std.specs.List.{flat_map}
use Rattle.wire_text.specs.Wire.{uint32, string}
use Rattle.key_purposes.specs.Purposes.{ArePurposes, word_of}
use Rattle.key_purposes.specs.declared.purpose.Purpose.{Purpose}
use Rattle.constraint_rec.specs.declared.terms.Terms.{Terms}
use Rattle.constraint_rec.specs.Hops.{SpeltConstraint, list_text, constraint_of, IsDestination}

-- no lifetime, no confirmation, no number of uses, no destination constraint, no purposes
abbrev pub no_terms : Terms
no_terms = record { life = None; confirm = false; uses = None; rules = []; purposes = [] }

-- ---- what constraints are

-- a constraint with its contents
pub data Item : Type 0 where
  Life : (seconds : ℕ) → Item
  Confirmation : Item
  UseCount : (uses : ℕ) → Item
  Rules : (rules : List SpeltConstraint) → Item
  Purposes : (purposes : List Purpose) → Item

-- the name of the extension that holds destination constraints
unfoldable pub restrict_destination : List ℕ
restrict_destination = codes "restrict-destination-v00@openssh.com"

-- the name of the extension that holds a number of uses
unfoldable pub uses_name : List ℕ
uses_name = codes "uses-v00@example.com"

-- the name of the extension that holds purposes
unfoldable pub purposes_name : List ℕ
purposes_name = codes "purposes-v00@example.com"

-- the words of purposes, each as a string
abbrev pub purposes_text : List Purpose → List ℕ
purposes_text purposes = flat_map (λ purpose. string (word_of purpose)) purposes

-- its byte, and its contents
abbrev pub item_text : Item → List ℕ
item_text (Life seconds) = 1 ∷ uint32 seconds
item_text Confirmation = 2 ∷ []
item_text (UseCount uses) = 255 ∷ (string uses_name ++ uint32 uses)
item_text (Rules rules) = 255 ∷ (string restrict_destination ++ string (list_text rules))
item_text (Purposes purposes) = 255 ∷ (string purposes_name ++ string (purposes_text purposes))

-- the contents are some destination constraints, which fit into their field
pub record AreRules (rules : List SpeltConstraint) : Type 0 where
  pub some : rules ≢ []
  pub each : All IsDestination (map constraint_of rules)
  pub short : length (list_text rules) < 2 ^ 32

-- the number is one that a constraint may have
pub record IsUseCount (uses : ℕ) : Type 0 where
  pub some : 1 ≤ uses
  pub short : uses < 2 ^ 32

-- the contents fit into their fields
abbrev pub IsItem : Item → Type 0
IsItem (Life seconds) = seconds < 2 ^ 32
IsItem Confirmation = Unit {0}
IsItem (UseCount uses) = IsUseCount uses
IsItem (Rules rules) = AreRules rules
IsItem (Purposes purposes) = ArePurposes (map word_of purposes) purposes

-- two constraints are of one kind
abbrev pub is_alike : Item → Item → Bool
is_alike (Life seconds) (Life others) = true
is_alike Confirmation Confirmation = true
is_alike (UseCount uses) (UseCount others) = true
is_alike (Rules rules) (Rules others) = true
is_alike (Purposes purposes) (Purposes others) = true
is_alike item other = false

-- terms that the constraint is added to
abbrev pub with_item : Terms → Item → Terms
with_item terms (Life seconds) = record terms { life = Some seconds }
with_item terms Confirmation = record terms { confirm = true }
with_item terms (UseCount uses) = record terms { uses = Some uses }
with_item terms (Rules rules) = record terms { rules = map constraint_of rules }
with_item terms (Purposes purposes) = record terms { purposes = purposes }

-- terms that all of the constraints are added to
abbrev pub with_items : Terms → List Item → Terms
with_items terms [] = terms
with_items terms (item ∷ items) = with_items (with_item terms item) items

-- the bytes are constraints in any order, at most one of each kind, and the terms have their values
pub record IsConstraints (bytes : List ℕ) (terms : Terms) : Type 0 where
  pub items : List Item
  pub text : bytes ≡ flat_map item_text items
  pub fit : All IsItem items
  pub once : (item : Item) → length (filter (is_alike item) items) ≤ 1
  pub values : terms ≡ with_items no_terms items
