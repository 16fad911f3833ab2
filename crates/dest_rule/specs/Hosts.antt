-- The host that a login goes to, by the name that the first constraint gives it that permits the login (ours).
use Rattle.std.specs.Prelude.{◌≡◌, ℕ, true, List, [], ◌∷◌, length, Contains, Option, Some, None, Result, Ok, Err, if◌then◌else◌}
use Rattle.constraint_rec.specs.declared.constraint.Constraint.{Constraint}
use Rattle.userauth_blob.specs.UserAuths.{Login}
use Rattle.userauth_blob.specs.Reading.{auth_of}
use Rattle.userauth_blob.specs.declared.fault.AuthFault.{AuthFault}
use Rattle.dest_rule.specs.Chains.{Binding, newest_after}
use Rattle.dest_rule.specs.Places.{key_before}
use Rattle.dest_rule.specs.Rules.{Grounds, permits_pair}

-- the name of the host to which the first of these constraints leads that permits to go from the previous host key
-- to this one
abbrev pub first_to : Grounds → Option (List ℕ) → List ℕ → List Constraint → Option (List ℕ)
first_to grounds previous host_key [] = None
first_to grounds previous host_key (rule ∷ rules) =
    if permits_pair grounds previous host_key rule then Some rule.to.host
    else first_to grounds previous host_key rules

-- the name of the newest host of a chain
abbrev pub newest_host : Grounds → List Binding → Option (List ℕ)
newest_host grounds [] = None
newest_host grounds (binding ∷ later) =
    first_to grounds (key_before None (binding ∷ later) (length later))
    (newest_after binding later).host_key grounds.rules

-- the host of a message that was read: only a login has one
abbrev pub host_of_login : Result Login AuthFault → List Constraint → List Binding → ℕ → Option (List ℕ)
host_of_login (Err fault) rules chain wall = None
host_of_login (Ok login) rules chain wall =
    newest_host (record { rules = rules; user = Some login.user; wall = wall }) chain

-- the host that a login goes to, which the key of this blob, under these constraints, is to sign for a connection so
-- bound
unfoldable pub login_host : List Constraint → List ℕ → List Binding → List ℕ → ℕ → Option (List ℕ)
login_host rules blob chain message wall = host_of_login (auth_of message blob) rules chain wall

-- the host of this name is that of one of the constraints, which permits to go from the host before the newest to the
-- newest
pub record IsPermittedTo (grounds : Grounds) (binding : Binding) (later : List Binding) (host : List ℕ) : Type 0 where
  pub rule : Constraint
  pub held : Contains grounds.rules rule
  pub permits : permits_pair grounds (key_before None (binding ∷ later) (length later))
      (newest_after binding later).host_key rule ≡ true
  pub name : rule.to.host ≡ host
