-- What the actions so far tell of a confirmation, without a state, and why a signature is put to
-- the helper (ours).
use Rattle.std.specs.Prelude.{◌≡◌, ◌≤◌, ℕ, List, [], ◌∷◌, Option, Some, None, Ok, false, ◌==◌, if◌then◌else◌}
use Rattle.std.specs.List.{sum_by}
use Rattle.std.specs.Option.{option_map}
use Rattle.confirm_desk.specs.Confirmations.{Confirmation, find_job}
use Rattle.identity_table.specs.Identities.{HaveOwnBlobs, HaveOwnNumbers, HeldKey, TableState, find_identity, find_number}
use Rattle.agent_msg.specs.Requests.{Sign, Signing}
use Rattle.agent_model.specs.Actions.{Action, Asking, Granted, Over, Raised, Raising, Requested, Requesting}
use Rattle.agent_model.specs.Askable.{IsGrantable}
use Rattle.agent_model.specs.Binds.{agent_request_of}
use Rattle.agent_model.specs.Grants.{IsAmong}
use Rattle.agent_model.specs.State.{Port, State, find_port}

-- ---- what is waited for

-- what an action leaves of the confirmation of this job: what was raised, until the user agrees or
-- it ends otherwise
abbrev pub pending_by : ℕ → Action → Option Raising → Option Raising
pending_by job (Raised raising) before = if raising.job == job then Some raising else before
pending_by job (Granted other) before = if other == job then None else before
pending_by job (Over other) before = if other == job then None else before
pending_by job action before = before

-- what actions, the oldest first, leave of what the user is asked for by this job
abbrev pub pending_after : ℕ → List Action → Option Raising → Option Raising
pending_after job [] before = before
pending_after job (action ∷ later) before = pending_after job later (pending_by job action before)

-- what actions, from the first state on, leave of what the user is asked for by this job
abbrev pub pending : List Action → ℕ → Option Raising
pending actions job = pending_after job actions None

-- ---- what is noted of it

-- what a confirmation is for: whose, of which addition, and what is to be signed
pub record Wanted : Type 0 where
  pub port : ℕ
  pub addition : ℕ
  pub message : List ℕ
  pub flags : ℕ

-- what a confirmation is for, as it was raised
abbrev pub wanted : Raising → Wanted
wanted raising = record {
  port = raising.port;
  addition = raising.addition;
  message = raising.signing.message;
  flags = raising.signing.flags;
}

-- what a confirmation is for, as it waits
abbrev pub wanted_of : Confirmation → Wanted
wanted_of one =
    record { port = one.asker; addition = one.addition; message = one.message; flags = one.flags }

-- what the confirmation of this job is for, where one waits
abbrev pub noted : ℕ → List Confirmation → Option Wanted
noted job confirmations = option_map wanted_of (find_job job confirmations)

-- ---- how often

-- whether an action ends the confirmation of this job, by consent or without, as 1 or 0
abbrev pub ends_by : ℕ → Action → ℕ
ends_by job (Granted other) = if other == job then 1 else 0
ends_by job (Over other) = if other == job then 1 else 0
ends_by job action = 0

-- whether an action raises a confirmation under this job, as 1 or 0
abbrev pub raises_by : ℕ → Action → ℕ
raises_by job (Raised raising) = if raising.job == job then 1 else 0
raises_by job action = 0

-- how often the confirmation of this job ends, and how often one is raised under it
abbrev pub times_ended : ℕ → List Action → ℕ
times_ended job actions = sum_by (ends_by job) actions

-- how often a confirmation is raised for this job
abbrev pub times_raised : ℕ → List Action → ℕ
times_raised job actions = sum_by (raises_by job) actions

-- ---- what is held

-- no two identities have one blob, nor one number, and no number is above the last
pub record HaveOwnParts (table : TableState) : Type 0 where
  pub blobs : HaveOwnBlobs table.identities
  pub numbers : HaveOwnNumbers table.last table.identities

-- the uses that are left are no more than there were
abbrev pub AreNoMore : Option ℕ → Option ℕ → Type 0
AreNoMore None None = Unit {0}
AreNoMore None (Some before) = ⊥
AreNoMore (Some left) None = ⊥
AreNoMore (Some left) (Some before) = left ≤ before

-- an identity as it was, but for its uses, of which as many are left, or fewer
pub record IsUsed (before after : HeldKey) : Type 0 where
  pub same : after ≡ record before { uses = after.uses }
  pub left : AreNoMore after.uses before.uses

-- the identity of this addition was among these, with as many uses as now, or more
pub record WasHeld (number : ℕ) (keys : List HeldKey) (key : HeldKey) : Type 0 where
  pub was : HeldKey
  pub found : find_number number keys ≡ Some was
  pub used : IsUsed was key

-- ---- why a signature is put to the helper

-- an ask for this signature follows, in an event with these actions that came in this state: the
-- client asked for it in this very event, with a key that doesn't ask for confirmation; or the user
-- agreed in this event to what the client asked for under a job that was waited for until then, and
-- that very addition may be used by now
pub data IsPut (asking : Asking) (signing : Signing) (waiting : ℕ → Option Raising) (state : State)
    (actions : List Action) : Type 0 where
  at_once : (requesting : Requesting) (key : HeldKey) → IsAmong (Requested requesting) actions
      → requesting.port ≡ asking.port → agent_request_of requesting.body ≡ Ok (Sign signing)
      → find_identity signing.blob state.held.table.identities ≡ Some key → key.confirm ≡ false
      → IsPut asking signing waiting state actions
  by_consent : (job : ℕ) (raising : Raising) (key : HeldKey) (port : Port)
      → IsAmong (Granted job) actions → waiting job ≡ Some raising → raising.port ≡ asking.port
      → raising.signing ≡ signing → find_port asking.port state.ports ≡ Some port
      → IsGrantable key port.chain raising.addition signing.message signing.flags state.moment.wall state.held
      → IsPut asking signing waiting state actions
