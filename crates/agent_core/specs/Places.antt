-- Where a port stands in a list of ports.
use Rattle.std.specs.Prelude.{◌≡◌, ℕ, ◌<◌, List, length, Some, slice_get, slice_set}
use Rattle.std.specs.List.{remove}
use Rattle.agent_model.specs.State.{Port, find_port, change_port, remove_port}

-- the port of this number is the one at this place, to find, to change and to remove
pub record IsPlace (number : ℕ) (ports : List Port) (place : ℕ) : Type 0 where
  pub within : place < length ports
  pub found : find_port number ports ≡ slice_get ports place
  pub changed : (f : Port → Port) (port : Port) → find_port number ports ≡ Some port → change_port number f ports ≡ slice_set ports place (f port)
  pub removed : remove_port number ports ≡ remove ports place
