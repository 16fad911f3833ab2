-- What a state has of private keys: those that are held, what the helper is owed, and what clients sent and nothing has
-- taken yet (ours). Nothing of a removed key is anywhere else.
use Rattle.std.specs.Prelude.{◌≡◌, ℕ, List, [], Option, IsSome}
use Rattle.std.specs.List.{AllByRecursion}
use Rattle.std.specs.Option.{option_map}
use Rattle.world_ports.specs.declared.Door.TheVariants.{Clients}
use Rattle.identity_table.specs.Identities.{find_identity}
use Rattle.agent_model.specs.Events.{Timed}
use Rattle.agent_model.specs.Runs.{Stamped, history, run}
use Rattle.agent_model.specs.State.{Port, Settings, State, first_state}
use Rattle.agent_laws.specs.History.{onto}
use Rattle.agent_laws.specs.Past.{PastAddition, last_addition}

-- all that a client sent was taken
abbrev pub IsTaken : Port → Type 0
IsTaken port = port.door ≡ Clients → port.heard ≡ []

-- the helper is owed nothing, and all that clients sent was taken
pub record IsDrained (state : State) : Type 0 where
  pub owed : state.under_way.link.owed ≡ []
  pub taken : AllByRecursion IsTaken state.ports

-- the state that these events lead to, from the first one on
abbrev pub end_of : Settings → List Timed → State
end_of settings events = run (first_state settings) events

-- the actions of these events, the newest first
abbrev pub past_of : Settings → List Timed → List Stamped
past_of settings events = onto [] (history (first_state settings) events)

-- the private string with which a key was added
abbrev pub private_of : PastAddition → List ℕ
private_of past = past.addition.key.private

-- the private string of the last addition of this blob, if nothing removed it later
abbrev pub last_private : List ℕ → List Stamped → Option (List ℕ)
last_private blob past = option_map private_of (last_addition blob past)

-- the last additions of each key that is held behind the first events have one private string in both lists
abbrev pub HoldTheSame : Settings → List Timed → List Timed → Type 0
HoldTheSame settings one other =
    (blob : List ℕ) → IsSome (find_identity blob (end_of settings one).held.table.identities)
    → last_private blob (past_of settings one) ≡ last_private blob (past_of settings other)
