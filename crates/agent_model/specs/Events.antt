-- What happens to the agent (ours).
use Rattle.std.specs.Prelude.{ℕ, List}
use Rattle.world_ports.specs.declared.Moment.{Moment}
use Rattle.world_ports.specs.declared.Door.{Door}

-- an event, with its bytes as a plain list
pub data Happening : Type 0 where
  Joined : Door → Happening
  Heard : (port : ℕ) → (piece : List ℕ) → Happening
  Ended : (port : ℕ) → Happening
  Took : (port : ℕ) → (count : ℕ) → Happening
  Started : (job : ℕ) → (ticket : List ℕ) → Happening
  StartFailed : (job : ℕ) → Happening
  Tick : Happening

-- an event and the moment at which it comes
pub record Timed : Type 0 where
  pub moment : Moment
  pub event : Happening
