-- Who waits for the user's consent, and where the child processes that ask are, in every state that
-- events lead to (ours).
use Rattle.std.specs.Prelude.{◌≡◌, ◌≢◌, ℕ, ◌≤◌, List, [], length, Some, IsSome}
use Rattle.lists.specs.Keyed.{RiseBy}
use Rattle.world_ports.specs.declared.Door.TheVariants.{Clients, Children}
use Rattle.helper_link.specs.declared.state.LinkState.{LinkState}
use Rattle.helper_link.specs.declared.state.LinkState.TheVariants as states
use Rattle.confirm_desk.specs.Confirmations.{Confirmation, find_job, job_of}
use Rattle.agent_model.specs.State.{OnConfirmation, Port, State, find_port}

-- the jobs rise, each above `below` and none above `last`; so they are distinct
abbrev pub JobsRise : ℕ → List Confirmation → ℕ → Type 0
JobsRise below confirmations last = RiseBy job_of below confirmations last

-- the client of this port waits for the confirmation of this job, which is its own, and is owed
-- nothing
pub record IsAsking (number job : ℕ) (port : Port) (confirmations : List Confirmation) : Type 0
  where
    pub confirmation : Confirmation
    pub found : find_job job confirmations ≡ Some confirmation
    pub asker : confirmation.asker ≡ number
    pub owed : port.owed ≡ []
    pub door : port.door ≡ Clients

-- whoever waits for consent has a confirmation of its own; and whoever a confirmation is for waits
-- for it, where its port is open
pub record AreAsking (ports : List Port) (confirmations : List Confirmation) : Type 0 where
  pub waits : (number job : ℕ) (port : Port) → find_port number ports ≡ Some port
      → port.waits ≡ OnConfirmation job → IsAsking number job port confirmations
  pub asks : (job : ℕ) (one : Confirmation) (port : Port) → find_job job confirmations ≡ Some one
      → find_port one.asker ports ≡ Some port → port.waits ≡ OnConfirmation job

-- the jobs rise up to the last one, and who waits is tied to the confirmations; none is for a port
-- that hasn't joined, and each child process that asks joined through the door of child processes
pub record AreRaised (confirmations : List Confirmation) (last_job : ℕ) (ports : List Port)
    (last_port : ℕ) : Type 0 where
  pub order : JobsRise 0 confirmations last_job
  pub asking : AreAsking ports confirmations
  pub askers : (job : ℕ) (one : Confirmation) → find_job job confirmations ≡ Some one
      → one.asker ≤ last_port
  pub confirmers : (job number : ℕ) (one : Confirmation) (port : Port) → find_job job confirmations
      ≡ Some one → one.port ≡ Some number → find_port number ports ≡ Some port
      → port.door ≡ Children
  pub known : (job number : ℕ) (one : Confirmation) → find_job job confirmations ≡ Some one
      → one.port ≡ Some number → number ≤ last_port

-- no more than 16 are waited for; each asker is open, and so is each child process that came to
-- ask; no two of these are at one port, and none is at the helper's
pub record AreAttended (confirmations : List Confirmation) (link : LinkState) (ports : List Port)
    : Type 0 where
  pub few : length confirmations ≤ 16
  pub askers : (job : ℕ) (one : Confirmation) → find_job job confirmations ≡ Some one
      → IsSome (find_port one.asker ports)
  pub confirmers : (job number : ℕ) (one : Confirmation) → find_job job confirmations ≡ Some one
      → one.port ≡ Some number → IsSome (find_port number ports)
  pub apart : (a b number : ℕ) (one other : Confirmation) → find_job a confirmations ≡ Some one
      → find_job b confirmations ≡ Some other → one.port ≡ Some number → other.port ≡ Some number
      → a ≡ b
  pub helper : (job number : ℕ) (one : Confirmation) → find_job job confirmations ≡ Some one
      → one.port ≡ Some number → link ≢ states.Linked number

-- the confirmations of a state are attended: few, of open ports, and each child process at a port of its own
abbrev pub IsAttended : State → Type 0
IsAttended state = AreAttended state.under_way.confirmations state.under_way.link.state state.ports
