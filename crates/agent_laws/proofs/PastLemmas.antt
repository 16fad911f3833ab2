-- Actions behind others.
use Rattle.std.proofs.Common.{◌≡◌, ℕ, List, [], ◌∷◌, ◌++◌, map, refl, ap, Option, None}
use Rattle.world_ports.specs.declared.Moment.{Moment}
use Rattle.agent_model.specs.Actions.{Action, Answered, Asked, ForBinding, ForSignature, Granted, Lost, Over, Proved, Purpose, Raised, Requested}
use Rattle.agent_model.specs.Runs.{Stamped}
use Rattle.agent_laws.specs.Dues.{Claim, due_signing}
use Rattle.agent_laws.specs.History.{ArePutWhereDue, IsDue, IsLawful, IsPutWhereDue, StandsAt, StandsWhereDue, onto}

-- actions at a moment
abbrev pub stamp : Moment → Action → Stamped
stamp moment action = record { moment = moment; action = action }

abbrev pub stamps : Moment → List Action → List Stamped
stamps moment actions = map (stamp moment) actions

pub onto-append : (past some more : List Stamped)
    → onto past (some ++ more) ≡ onto (onto past some) more
onto-append past [] more = refl
onto-append past (one ∷ some) more = onto-append (one ∷ past) some more

pub stamps-append : (moment : Moment) (some more : List Action)
    → stamps moment (some ++ more) ≡ stamps moment some ++ stamps moment more
stamps-append moment [] more = refl
stamps-append moment (action ∷ some) more =
    ap (λ later. stamp moment action ∷ later) (stamps-append moment some more)

-- ---- what is lawful where this holds, and what is put where it is due in any case

abbrev pub StandsIf : Type 0 → Action → Option Claim → Type 0
StandsIf N (Requested requesting) due = N → due ≡ None
StandsIf N (Asked asking) due = IsDue asking.purpose asking.port due
StandsIf N (Answered settled) due = N → due ≡ None
StandsIf N (Proved proving) due = N → due ≡ None
StandsIf N (Raised raising) due = N → due ≡ None
StandsIf N (Granted job) due = N → due ≡ None
StandsIf N (Over job) due = N → due ≡ None
StandsIf N Lost due = N → due ≡ None

abbrev pub LawfulIf : Type 0 → Option ℕ → List Stamped → List Stamped → Type 0
LawfulIf N life past [] = N → due_signing life past ≡ None
LawfulIf N life past (one ∷ later) =
    StandsIf N one.action (due_signing life past) × LawfulIf N life (one ∷ past) later

stands-if : {N : Type 0} (action : Action) (due : Option Claim) → N → StandsIf N action due →
    StandsAt action due
stands-if (Requested requesting) due n stands = stands n
stands-if (Asked asking) due n stands = stands
stands-if (Answered settled) due n stands = stands n
stands-if (Proved proving) due n stands = stands n
stands-if (Raised raising) due n stands = stands n
stands-if (Granted job) due n stands = stands n
stands-if (Over job) due n stands = stands n
stands-if Lost due n stands = stands n

-- it holds
pub lawful-if : {N : Type 0} (life : Option ℕ) (past some : List Stamped) → N →
    LawfulIf N life past some → IsLawful life past some
lawful-if life past [] n lawful = lawful n
lawful-if life past (one ∷ some) n lawful =
    (stands-if one.action (due_signing life past) n lawful.0, lawful-if life (one ∷ past) some n lawful.1)

pub due-purpose : (purpose : Purpose) (port : ℕ) (due : Option Claim) → IsDue purpose port due →
    IsPutWhereDue purpose port due
due-purpose (ForSignature signing) port due is = is
due-purpose (ForBinding binding) port due is = tt

only-at : (N : Type 0) (action : Action) (due : Option Claim) → StandsIf N action due →
    StandsWhereDue action due
only-at N (Requested requesting) due stands = tt
only-at N (Asked asking) due stands = due-purpose asking.purpose asking.port due stands
only-at N (Answered settled) due stands = tt
only-at N (Proved proving) due stands = tt
only-at N (Raised raising) due stands = tt
only-at N (Granted job) due stands = tt
only-at N (Over job) due stands = tt
only-at N Lost due stands = tt

-- it may hold or not
pub only-if : (N : Type 0) (life : Option ℕ) (past some : List Stamped) →
    LawfulIf N life past some → ArePutWhereDue life past some
only-if N life past [] lawful = tt
only-if N life past (one ∷ some) lawful =
    (only-at N one.action (due_signing life past) lawful.0, only-if N life (one ∷ past) some lawful.1)

-- ---- more of it

pub lawful-append : (N : Type 0) (life : Option ℕ) (past some more : List Stamped)
    → LawfulIf N life past some → LawfulIf N life (onto past some) more
    → LawfulIf N life past (some ++ more)
lawful-append N life past [] more first later = later
lawful-append N life past (one ∷ some) more first later =
    (first.0, lawful-append N life (one ∷ past) some more first.1 later)

-- nothing is due behind lawful actions
pub nothing_due : {N : Type 0} (life : Option ℕ) (past some : List Stamped)
    → LawfulIf N life past some → N → due_signing life (onto past some) ≡ None
nothing_due life past [] lawful = lawful
nothing_due life past (one ∷ some) lawful = nothing_due life (one ∷ past) some lawful.1
