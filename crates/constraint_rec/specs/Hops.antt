-- Destination constraints as bytes, and what their hops have to meet (OpenSSH's PROTOCOL.agent,
-- "restrict-destination-v00@openssh.com key constraint extension").
use Rattle.std.specs.Prelude.{◌≡◌, ◌≢◌, ◌↔◌, ℕ, List, [], ◌∷◌, ◌++◌, map, IsOk, All}
use Rattle.std.specs.List.{flat_map}
use Rattle.wire_text.specs.Wire.{boolean_of, string}
use Rattle.key_blob.specs.PublicKeys.{public_key_of}
use Rattle.constraint_rec.specs.declared.key_spec.KeySpec.{KeySpec}
use Rattle.constraint_rec.specs.declared.constraint.Hop.{Hop}
use Rattle.constraint_rec.specs.declared.constraint.Constraint.{Constraint}

-- ---- as they are spelled

-- a key, with the byte that tells whether it is an authority
pub record SpeltKey : Type 0 where
  pub blob : List ℕ
  pub is_ca : ℕ

-- a hop
pub record SpeltHop : Type 0 where
  pub user : List ℕ
  pub host : List ℕ
  pub keys : List SpeltKey

-- a destination constraint
pub record SpeltConstraint : Type 0 where
  pub from : SpeltHop
  pub to : SpeltHop

-- blob, is_ca
abbrev pub key_text : SpeltKey → List ℕ
key_text key = string key.blob ++ key.is_ca ∷ []

-- user, hostname, a reserved string that is empty, and keys to the end
abbrev pub hop_text : SpeltHop → List ℕ
hop_text hop = string hop.user ++ (string hop.host ++ (string [] ++ flat_map key_text hop.keys))

-- from-hop, to-hop, and a reserved string that is empty
abbrev pub constraint_text : SpeltConstraint → List ℕ
constraint_text constraint =
    string (hop_text constraint.from) ++ (string (hop_text constraint.to) ++ string [])

-- the constraints, each as a string
abbrev pub list_text : List SpeltConstraint → List ℕ
list_text constraints = flat_map (λ constraint. string (constraint_text constraint)) constraints

-- ---- what they say

-- the key that a key's record says
abbrev pub key_of : SpeltKey → KeySpec
key_of key = record { blob = key.blob; authority = boolean_of key.is_ca }

-- the hop that a hop's record says
abbrev pub hop_of : SpeltHop → Hop
hop_of hop = record { user = hop.user; host = hop.host; keys = map key_of hop.keys }

-- the constraint that a constraint's record says
abbrev pub constraint_of : SpeltConstraint → Constraint
constraint_of constraint = record { from = hop_of constraint.from; to = hop_of constraint.to }

-- ---- what they have to meet

-- the blob is a public key that is read
abbrev pub IsReadable : KeySpec → Type 0
IsReadable key = IsOk (public_key_of key.blob)

-- the hop that is left names no user, and has a hostname and keys, or neither
pub record IsFromHop (hop : Hop) : Type 0 where
  pub no_user : hop.user ≡ []
  pub both : (hop.host ≡ []) ↔ (hop.keys ≡ [])
  pub readable : All IsReadable hop.keys

-- the hop that is entered has a hostname and keys, and names any user
pub record IsToHop (hop : Hop) : Type 0 where
  pub named : hop.host ≢ []
  pub some : hop.keys ≢ []
  pub readable : All IsReadable hop.keys

-- the hop that is left and the hop that is entered are as such hops have to be
pub record IsDestination (constraint : Constraint) : Type 0 where
  pub from : IsFromHop constraint.from
  pub to : IsToHop constraint.to
