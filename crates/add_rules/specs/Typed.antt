-- The constraints of destinations in other words: how a word is typed, and which keys a hop has. No
-- word is cut here: a relation says what its parts spell (ssh-add(1), option -h; OpenSSH's
-- PROTOCOL.agent).
use Rattle.std.specs.Prelude.{◌≡◌, ◌≢◌, ◌⊎◌, ℕ, List, [], ◌∷◌, ◌++◌, Option, None, Some}
use Rattle.constraint_rec.specs.declared.key_spec.KeySpec.{KeySpec}
use Rattle.constraint_rec.specs.declared.constraint.Hop.{Hop}
use Rattle.constraint_rec.specs.declared.constraint.Constraint.{Constraint}
use Rattle.known_hosts.specs.HostKeys.{host_keys_of}

-- the element is in the list
abbrev pub IsAmong : {X : Type 0} → X → List X → Type 0
IsAmong one [] = ⊥
IsAmong one (other ∷ others) = (one ≡ other) ⊎ IsAmong one others

-- the byte isn't in the text
abbrev pub HasNo : ℕ → List ℕ → Type 0
HasNo mark [] = Unit {0}
HasNo mark (byte ∷ text) = (byte ≢ mark) × HasNo mark text

-- ---- words

-- the text is `user@host`, up to its first `@`, or a host without an `@`
abbrev pub SpellsLogin : List ℕ → Option (List ℕ) → List ℕ → Type 0
SpellsLogin text None host = (text ≡ host) × HasNo 64 host
SpellsLogin text (Some user) host = (text ≡ user ++ 64 ∷ host) × HasNo 64 user × (user ≢ [])

-- the word is `source>` and this text, up to its first `>`, or the text alone, without a `>`
abbrev pub SpellsWay : List ℕ → Option (List ℕ) → List ℕ → Type 0
SpellsWay word None text = (word ≡ text) × HasNo 62 text
SpellsWay word (Some source) text = (word ≡ source ++ 62 ∷ text) × HasNo 62 source

-- ---- keys

-- some file of known hosts gives the key for the host
pub record IsGiven (files : List (List ℕ)) (host : List ℕ) (key : KeySpec) : Type 0 where
  pub file : List ℕ
  pub is_read : IsAmong file files
  pub has : IsAmong key (host_keys_of file host)

-- the keys are those that the files give for the host: each of them, no other, and at least one
pub record AreGiven (files : List (List ℕ)) (host : List ℕ) (keys : List KeySpec) : Type 0 where
  pub only : (key : KeySpec) → IsAmong key keys → IsGiven files host key
  pub every : (key : KeySpec) → IsGiven files host key → IsAmong key keys
  pub some : keys ≢ []

-- ---- hops

-- the hop is this host, with its keys
pub record IsHost (files : List (List ℕ)) (host : List ℕ) (hop : Hop) : Type 0 where
  pub named : host ≢ []
  pub host_is : hop.host ≡ host
  pub keys : AreGiven files host hop.keys

-- the hop that a connection leaves: of any user; the agent's own host has no name and no key
abbrev pub IsLeft : List (List ℕ) → Option (List ℕ) → Hop → Type 0
IsLeft files None hop = (hop.user ≡ []) × (hop.host ≡ []) × (hop.keys ≡ [])
IsLeft files (Some source) hop = (hop.user ≡ []) × HasNo 64 source × IsHost files source hop

-- the user of a hop is the one that is named, or nobody
abbrev pub IsUser : Option (List ℕ) → List ℕ → Type 0
IsUser None user = user ≡ []
IsUser (Some named) user = user ≡ named

-- ---- constraints

-- the constraint is the word's: between its hosts, for its user, with all keys of these hosts
pub record IsAskedBy (files : List (List ℕ)) (word : List ℕ) (rule : Constraint) : Type 0 where
  pub source : Option (List ℕ)
  pub text : List ℕ
  pub way : SpellsWay word source text
  pub user : Option (List ℕ)
  pub host : List ℕ
  pub login : SpellsLogin text user host
  pub left : IsLeft files source rule.from
  pub user_is : IsUser user rule.to.user
  pub entered : IsHost files host rule.to

-- each word has its constraint, in the words' order, and there is no other
abbrev pub AreAskedBy : List (List ℕ) → List (List ℕ) → List Constraint → Type 0
AreAskedBy files [] [] = Unit {0}
AreAskedBy files (word ∷ words) [] = ⊥
AreAskedBy files [] (rule ∷ rules) = ⊥
AreAskedBy files (word ∷ words) (rule ∷ rules) =
    IsAskedBy files word rule × AreAskedBy files words rules
