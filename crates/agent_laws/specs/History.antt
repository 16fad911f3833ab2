-- Signatures are put to the helper exactly where the actions before say so (ours).
use Rattle.std.specs.Prelude.{◌≡◌, ◌≢◌, ℕ, ◌<◌, ◌-◌, ◌^◌, List, [], ◌∷◌, ◌++◌, ◌⊎◌, Option, None, Some, Ok, true, IsSomeAnd}
use Rattle.world_ports.specs.declared.Moment.{Moment}
use Rattle.agent_msg.specs.Requests.{Addition, Signing}
use Rattle.constraint_rec.specs.declared.constraint.Constraint.{Constraint}
use Rattle.userauth_blob.specs.Reading.{auth_of}
use Rattle.userauth_blob.specs.UserAuths.{Login}
use Rattle.dest_rule.specs.Rules.{is_hop}
use Rattle.dest_rule.specs.declared.binding.Binding.{Binding}
use Rattle.agent_model.specs.Events.{Timed}
use Rattle.agent_laws.specs.Past.{DidAdd, DidRemove, DidRemoveAll, DidUnlock, done_of}
use Rattle.agent_model.specs.Actions.{Action, Asked, Asking, ForBinding, ForSignature, Granted, Purpose, Raising}
use Rattle.agent_model.specs.Runs.{Stamped, history}
use Rattle.agent_model.specs.State.{Settings, State, first_state}
use Rattle.agent_laws.specs.Dues.{Claim, due_signing, raised_at}

-- a signature is put where it is due, and a verification where no signature is
abbrev pub IsDue : Purpose → ℕ → Option Claim → Type 0
IsDue (ForSignature signing) port due =
    IsSomeAnd due (λ claim. (claim.port ≡ port) × (claim.signing ≡ signing))
IsDue (ForBinding binding) port due = due ≡ None

-- the action stands where this is due: nothing else comes between
abbrev pub StandsAt : Action → Option Claim → Type 0
StandsAt (Asked asking) due = IsDue asking.purpose asking.port due
StandsAt other due = due ≡ None

-- each of these actions, the oldest first, stands where it may behind those of the past, the newest
-- first, and nothing is due behind the last
abbrev pub IsLawful : Option ℕ → List Stamped → List Stamped → Type 0
IsLawful life past [] = due_signing life past ≡ None
IsLawful life past (one ∷ later) =
    StandsAt one.action (due_signing life past) × IsLawful life (one ∷ past) later

-- ---- signatures that are put alone

-- a signature is put where it is due
abbrev pub IsPutWhereDue : Purpose → ℕ → Option Claim → Type 0
IsPutWhereDue (ForSignature signing) port due =
    IsSomeAnd due (λ claim. (claim.port ≡ port) × (claim.signing ≡ signing))
IsPutWhereDue (ForBinding binding) port due = Unit {0}

-- an action puts a signature where it is due, if it puts one
abbrev pub StandsWhereDue : Action → Option Claim → Type 0
StandsWhereDue (Asked asking) due = IsPutWhereDue asking.purpose asking.port due
StandsWhereDue other due = Unit {0}

-- of each of these, the oldest first, behind those of the past, the newest first
abbrev pub ArePutWhereDue : Option ℕ → List Stamped → List Stamped → Type 0
ArePutWhereDue life past [] = Unit {0}
ArePutWhereDue life past (one ∷ later) =
    StandsWhereDue one.action (due_signing life past) × ArePutWhereDue life (one ∷ past) later

-- ---- the past

-- these actions behind the past: the newest stands first
abbrev pub onto : List Stamped → List Stamped → List Stamped
onto past [] = past
onto past (one ∷ later) = onto (one ∷ past) later

-- neither the numbers of asks nor those of jobs are spent
pub record HasNumbers (state : State) : Type 0 where
  pub asks : state.under_way.link.last < 2 ^ 64 - 1
  pub jobs : state.under_way.last_job < 2 ^ 64 - 1

-- ---- a signature that is put to the helper

-- behind these actions a signature is put to the helper for the client of a port
pub record IsPutBehind (before : List Stamped) (port : ℕ) (signing : Signing) (settings : Settings)
    (events : List Timed) : Type 0 where
  pub one : Stamped
  pub later : List Stamped
  pub asking : Asking
  pub is : history (first_state settings) events ≡ before ++ one ∷ later
  pub action : one.action ≡ Asked asking
  pub purpose : asking.purpose ≡ ForSignature signing
  pub asker : asking.port ≡ port

-- no unlock succeeds in these actions
abbrev pub NoneUnlocks : List Stamped → Type 0
NoneUnlocks [] = Unit {0}
NoneUnlocks (one ∷ later) = (done_of one.action ≢ DidUnlock) × NoneUnlocks later

-- no addition of this blob succeeds in these actions
abbrev pub NoneAdds : List ℕ → List Stamped → Type 0
NoneAdds blob [] = Unit {0}
NoneAdds blob (one ∷ later) =
    ((addition : Addition) → done_of one.action ≡ DidAdd addition → addition.key.blob ≢ blob)
    × NoneAdds blob later

-- the action removed the key of this blob, or all
abbrev pub Removes : List ℕ → Action → Type 0
Removes blob action = (done_of action ≡ DidRemove blob) ⊎ (done_of action ≡ DidRemoveAll)

-- the newest action is the user's consent to this signature, for this port and under the addition
-- of this number, which was asked for before and was not over
pub record IsConsented (past : List Stamped) (port number : ℕ) (signing : Signing) : Type 0 where
  pub job : ℕ
  pub moment : Moment
  pub rest : List Stamped
  pub is : past ≡ record { moment = moment; action = Granted job } ∷ rest
  pub raising : Raising
  pub raised : raised_at job rest ≡ Some raising
  pub asker : raising.port ≡ port
  pub addition : raising.addition ≡ number
  pub what : raising.signing ≡ signing

-- the message is a login to the session of the one binding, and the constraint's hop is its host at
-- this second
pub record IsLoginTo (rule : Constraint) (chain : List Binding) (signing : Signing) (wall : ℕ)
    : Type 0 where
  pub binding : Binding
  pub only : chain ≡ binding ∷ []
  pub login : Login
  pub names : auth_of signing.message signing.blob ≡ Ok login
  pub session : login.session ≡ binding.session
  pub host : is_hop rule.to binding.host_key wall ≡ true
