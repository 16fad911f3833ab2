-- About whose request an event asks the user, by the jobs before and behind it (ours).
use Rattle.std.specs.Prelude.{◌≡◌, ℕ, List, [], ◌∷◌, Option, None, Some, length, slice_get}
use Rattle.world_ports.specs.declared.Job.{Job}
use Rattle.world_ports.specs.declared.JobKind.{JobKind}
use Rattle.world_ports.specs.declared.JobKind.TheVariants as kinds
use Rattle.world_ports.specs.declared.Moment.{Moment}
use Rattle.agent_model.specs.Events.{Happening, Joined, Heard, Ended, Took, Started, StartFailed, Tick}
use Rattle.agent_model.specs.State.{State, starts}
use Rattle.agent_model.specs.Step.{step}
use Rattle.log_laws.specs.Sights.{raised_in}

-- the port that an event is of, 0 where it is of none
abbrev pub port_of : Happening → ℕ
port_of (Joined door) = 0
port_of (Heard port piece) = port
port_of (Ended port) = port
port_of (Took port count) = port
port_of (Started job ticket) = 0
port_of (StartFailed job) = 0
port_of Tick = 0

-- a job of this kind is to ask the user about the client's request
abbrev pub raised_for : ℕ → JobKind → List ℕ
raised_for port kinds.Helper = []
raised_for port kinds.Confirm = port ∷ []

-- where there is one
abbrev pub raised_if : ℕ → Option Job → List ℕ
raised_if port None = []
raised_if port (Some job) = raised_for port job.kind

-- where so many jobs waited before: the one behind them is new
abbrev pub raised_since : ℕ → ℕ → List Job → List ℕ
raised_since port before jobs = raised_if port (slice_get jobs before)

-- an event asks the user about the request of its client where it began a job to ask him, and about no other
abbrev pub RaisesItsOwn : State → Moment → Happening → Type 0
RaisesItsOwn state moment event = raised_in (step state moment event).actions
    ≡ raised_since (port_of event) (length (starts state)) (starts (step state moment event).state)
