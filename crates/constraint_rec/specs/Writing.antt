-- Constraints as they are written: lifetime, confirmation, number of uses, destination constraints, purposes,
-- each where it is there.
use Rattle.std.specs.Prelude.{◌≢◌, ℕ, ◌^◌, ◌<◌, Bool, true, false, List, [], ◌∷◌, ◌++◌, map, length, All, Option, Some, None, IfSome}
use Rattle.std.specs.List.{flat_map}
use Rattle.key_purposes.specs.Purposes.{ArePurposes, word_of}
use Rattle.key_purposes.specs.declared.purpose.Purpose.{Purpose}
use Rattle.constraint_rec.specs.declared.key_spec.KeySpec.{KeySpec}
use Rattle.constraint_rec.specs.declared.constraint.Hop.{Hop}
use Rattle.constraint_rec.specs.declared.constraint.Constraint.{Constraint}
use Rattle.constraint_rec.specs.declared.terms.Terms.{Terms}
use Rattle.constraint_rec.specs.Hops.{SpeltKey, SpeltHop, SpeltConstraint, list_text, IsDestination}
use Rattle.constraint_rec.specs.Constraints.{Item, Life, Confirmation, UseCount, Rules, Purposes, IsUseCount, item_text}

-- ---- how they are spelled

-- 1 for an authority, and 0 for a host key
abbrev pub is_ca_byte : Bool → ℕ
is_ca_byte true = 1
is_ca_byte false = 0

-- the record of a key
abbrev pub spelt_key : KeySpec → SpeltKey
spelt_key key = record { blob = key.blob; is_ca = is_ca_byte key.authority }

-- the record of a hop
abbrev pub spelt_hop : Hop → SpeltHop
spelt_hop hop = record { user = hop.user; host = hop.host; keys = map spelt_key hop.keys }

-- the record of a constraint
abbrev pub spelt_constraint : Constraint → SpeltConstraint
spelt_constraint constraint =
    record { from = spelt_hop constraint.from; to = spelt_hop constraint.to }

-- ---- the constraints of terms, in order

-- the lifetime, where there is one
abbrev pub life_items : Option ℕ → List Item
life_items None = []
life_items (Some seconds) = Life seconds ∷ []

-- the wish for confirmation, where there is one
abbrev pub confirm_items : Bool → List Item
confirm_items true = Confirmation ∷ []
confirm_items false = []

-- the number of uses, where there is one
abbrev pub use_items : Option ℕ → List Item
use_items None = []
use_items (Some uses) = UseCount uses ∷ []

-- the destination constraints in one extension, where there are any
abbrev pub rule_items : List Constraint → List Item
rule_items [] = []
rule_items (rule ∷ rules) = Rules (map spelt_constraint (rule ∷ rules)) ∷ []

-- the purposes in one extension, where there are any
abbrev pub purpose_items : List Purpose → List Item
purpose_items [] = []
purpose_items (purpose ∷ purposes) = Purposes (purpose ∷ purposes) ∷ []

-- the constraints of the terms, in the order in which they are written
abbrev pub items_of : Terms → List Item
items_of terms =
    life_items terms.life ++ (confirm_items terms.confirm ++ (use_items terms.uses ++ (rule_items terms.rules
    ++ purpose_items terms.purposes)))

-- the text of the terms
unfoldable pub constraints_bytes : Terms → List ℕ
constraints_bytes terms = flat_map item_text (items_of terms)

-- the purposes are named by their words, where there are any
abbrev pub AreNamed : List Purpose → Type 0
AreNamed purposes = purposes ≢ [] → ArePurposes (map word_of purposes) purposes

-- the number of uses, the destination constraints and the purposes, each by itself, meet the rules of the format
pub record MeetsRules (terms : Terms) : Type 0 where
  pub uses : IfSome terms.uses IsUseCount
  pub rules : All IsDestination terms.rules
  pub purposes : AreNamed terms.purposes

-- the number of uses is one that a constraint may have, each destination constraint and the purposes meet the rules of the
-- format, and the text of all destination constraints fits its field, so that each text in it does
pub record IsWritable (terms : Terms) : Type 0 where
  pub uses : IfSome terms.uses IsUseCount
  pub rules : All IsDestination terms.rules
  pub purposes : AreNamed terms.purposes
  pub short : length (list_text (map spelt_constraint terms.rules)) < 2 ^ 32
