-- What holds of the agent in every state that events lead to, so that who is owed bytes or to be read stays so (ours).
use Rattle.std.specs.Prelude.{◌≡◌, ℕ, List, [], ◌∷◌}
use Rattle.world_ports.specs.declared.events.JobKind.{JobKind}
use Rattle.world_ports.specs.declared.events.JobKind.TheVariants as kinds
use Rattle.helper_link.specs.declared.state.LinkState.{LinkState}
use Rattle.helper_link.specs.declared.state.LinkState.TheVariants as states
use Rattle.agent_model.specs.Sound.{IsSound, IsTied}
use Rattle.agent_model.specs.State.{StartedJob, State, UnderWay}
use Rattle.under_way.specs.Parts.{AreKept, jobs_of}

-- a job of this kind and number is the one by which the link is being started, where it is a helper's
abbrev pub IsComing : JobKind → ℕ → LinkState → Type 0
IsComing kinds.Helper number link = link ≡ states.Starting number
IsComing kinds.Confirm number link = Unit {0}

-- each started job is
abbrev pub AreComing : LinkState → List StartedJob → Type 0
AreComing link [] = Unit {0}
AreComing link (one ∷ started) = IsComing one.job.kind one.job.number link × AreComing link started

-- each job that is to be started or was has a number of its own and fits the confirmations, and a started job of a
-- helper is the one by which the link is being started
pub record IsStaffed (under_way : UnderWay) : Type 0 where
  pub jobs : AreKept under_way.last_job under_way.confirmations under_way.to_start (jobs_of under_way.started)
  pub coming : AreComing under_way.link.state under_way.started

-- the ports rise and are few, what is under way fits together, and who waits is tied to it
pub record IsOrderly (state : State) : Type 0 where
  pub sound : IsSound state
  pub staffed : IsStaffed state.under_way
  pub tied : IsTied state
