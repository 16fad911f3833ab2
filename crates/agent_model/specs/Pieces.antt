-- Bytes that come in two parts (ours).
use Rattle.std.specs.Prelude.{◌≡◌, ◌++◌, Option, Some, None}
use Rattle.world_ports.specs.declared.Moment.{Moment}
use Rattle.agent_model.specs.Actions.{Outcome}
use Rattle.agent_model.specs.Asking.{IsAttended}
use Rattle.agent_model.specs.Sound.{IsSound, IsTied}
use Rattle.agent_model.specs.State.{Client, Confirmer, Helper, Port, Role, State, Unnamed, role_of}
use Rattle.agent_model.specs.Time.{at_moment}

-- what a piece brings as a whole is what its parts bring, as the next event at the same moment begins
pub record Agree (moment : Moment) (whole first second : Outcome) : Type 0 where
  pub state : at_moment moment whole.state ≡ at_moment moment second.state
  pub actions : whole.actions ≡ first.actions ++ second.actions
  pub put : whole.put ≡ first.put ++ second.put

-- what has to hold of a state in which a piece comes, by who sends it; a child process that hasn't
-- named itself isn't spoken of
abbrev pub MayBeCutBy : Role → State → Type 0
MayBeCutBy Client state = IsSound state
MayBeCutBy Unnamed state = ⊥
MayBeCutBy Helper state = IsSound state
MayBeCutBy (Confirmer confirmation) state = IsTied state × IsAttended state

-- by what is open there
abbrev pub MayBeCut : Option Port → State → Type 0
MayBeCut None state = IsSound state
MayBeCut (Some port) state = MayBeCutBy (role_of port.door port.number state.under_way) state
