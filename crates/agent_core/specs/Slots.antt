-- The storage of the open ports as the abstract agent sees it.
use Rattle.std.specs.Prelude.{◌≡◌, ℕ, ◌+◌, ◌^◌, ◌<◌, ◌≤◌, List, [], ◌∷◌, length, map, Option, Some, None, is_some, Bool, true, false, nat_lt, ◌&&◌, ◌||◌, if◌then◌else◌}
use Rattle.dest_rule.specs.Chains.{ChainState}
use Rattle.agent_core.specs.declared.slot.Slot.{Slot}
use Rattle.agent_core.specs.declared.waits.Waits.{Waits as CoreWaits}
use Rattle.agent_core.specs.declared.waits.Waits.TheVariants as waits
use Rattle.lists.specs.Rising.{IsRisingList, is_among}
use Rattle.agent_model.specs.Sound.{IsRising}
use Rattle.agent_model.specs.State.{Nothing, OnAsk, OnConfirmation, Port, Waits, find_port, is_client, is_some_bytes}

-- what a client waits for
abbrev pub waits_of : CoreWaits → Waits
waits_of waits.Nothing = Nothing
waits_of (waits.OnAsk ask) = OnAsk ask
waits_of (waits.OnConfirmation job) = OnConfirmation job

-- a port without its storage
abbrev pub port_of : Slot → Port
port_of slot = record {
  number = slot.number;
  door = slot.door;
  heard = slot.heard.live;
  owed = slot.owed;
  chain = slot.chain.bindings;
  attempted = slot.chain.attempted;
  waits = waits_of slot.waits;
}

-- the bindings of a port's connection, and whether it tried to bind
abbrev pub chain_of : Port → ChainState
chain_of port = record { bindings = port.chain; attempted = port.attempted }

-- the ports, in the order in which they are kept
abbrev pub ports_of : List Slot → List Port
ports_of slots = map port_of slots

-- what was heard at a port and not taken: nothing where it isn't open
abbrev pub heard_in : Option Port → List ℕ
heard_in None = []
heard_in (Some port) = port.heard

-- a client that is owed bytes
unfoldable pub is_owing : Port → Bool
is_owing port = is_client port.door && is_some_bytes port.owed

-- the numbers of the clients that are owed bytes
abbrev pub owing_of : List Port → List ℕ
owing_of [] = []
owing_of (port ∷ ports) = if is_owing port then port.number ∷ owing_of ports else owing_of ports

-- the first of these numbers above this one
abbrev pub first_above : ℕ → List ℕ → Option ℕ
first_above after [] = None
first_above after (number ∷ others) = if nat_lt after number then Some number else first_above after others

-- the open ports, the number of the last one that joined, and those that were closed since the event began, rising
pub record OpenPorts : Type 0 where
  pub ports : List Port
  pub last : ℕ
  pub closed : List ℕ

-- and those that were touched since then beside: rising too
pub record MarkedPorts : Type 0 where
  pub ports : List Port
  pub last : ℕ
  pub closed : List ℕ
  pub touched : List ℕ

-- the open ports without those that were touched
abbrev pub open_of : MarkedPorts → OpenPorts
open_of marked = record { ports = marked.ports; last = marked.last; closed = marked.closed }

-- the port is neither among those that were closed nor among those that were touched
abbrev pub IsUntouched : ℕ → (closed touched : List ℕ) → Type 0
IsUntouched port closed touched = (is_among port closed ≡ false) × (is_among port touched ≡ false)

-- a port that is neither then was neither before, and is found as it was
abbrev pub Spares : MarkedPorts → MarkedPorts → Type 0
Spares old new = (port : ℕ) → IsUntouched port new.closed new.touched
    → IsUntouched port old.closed old.touched × (find_port port new.ports ≡ find_port port old.ports)

-- the numbers rise up to the last one; those that were closed are listed, in a list with room for all that are open
pub record IsKept (slots : List Slot) (closed : List ℕ) (closed_room last : ℕ) : Type 0 where
  pub rising : IsRising 0 last (ports_of slots)
  pub closed_rising : IsRisingList closed
  pub closed_fits : length slots + length closed ≤ closed_room
  pub fits : last < 2 ^ 64

-- those that were touched are listed, each of which is open or was closed, in a list with room for all of them
pub record IsMarked (ports : List Port) (count : ℕ) (closed touched : List ℕ) (touched_room : ℕ) : Type 0 where
  pub rising : IsRisingList touched
  pub known : (port : ℕ) → is_among port touched ≡ true
      → (is_some (find_port port ports) || is_among port closed) ≡ true
  pub fits : count + length closed ≤ touched_room

-- both
pub record IsListed (slots : List Slot) (closed : List ℕ) (closed_room : ℕ) (touched : List ℕ) (touched_room last : ℕ) : Type 0 where
  pub kept : IsKept slots closed closed_room last
  pub marked : IsMarked (ports_of slots) (length slots) closed touched touched_room
