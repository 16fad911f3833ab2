-- The parts of the agent's storage as the abstract agent (ours).
use Rattle.std.specs.Prelude.{◌≡◌, ℕ, List, []}
use Rattle.agent_model.specs.Actions.{Outcome, Stepped}
use Rattle.agent_model.specs.KeyStates.{KeyState}
use Rattle.agent_model.specs.NumberLists.{put_all}
use Rattle.agent_model.specs.State.{Settings, State, UnderWay, find_port, first_state, owed_by, owed_of}
use Rattle.agent_core.specs.Slots.{IsUntouched, MarkedPorts, OpenPorts, open_of}
use Rattle.agent_core.specs.declared.event.Settings.{Settings as Stored}

-- what is held, what is under way and the open ports, at a second of the wall clock; the greatest monotonic second is the
-- one that the table knows
abbrev pub state_of : ℕ → KeyState → UnderWay → OpenPorts → State
state_of wall held under_way ports = record {
  held = held;
  under_way = under_way;
  ports = ports.ports;
  last_port = ports.last;
  moment = record { mono = held.table.greatest; wall = wall };
}

-- that state, and the ports that were closed since the event began
abbrev pub parts_of : ℕ → KeyState → UnderWay → OpenPorts → Stepped
parts_of wall held under_way ports =
    record { state = state_of wall held under_way ports; closes = ports.closed }

-- what the caller of the agent sees of an event: the state that it leaves, and the ports that it closed and that it
-- touched, both rising
pub record Moved : Type 0 where
  pub state : State
  pub closes : List ℕ
  pub touched : List ℕ

-- the same without the ports that it touched
abbrev pub stepped_of : Moved → Stepped
stepped_of moved = record { state = moved.state; closes = moved.closes }

-- and with those that were touched since the event began
abbrev pub moved_of : ℕ → KeyState → UnderWay → MarkedPorts → Moved
moved_of wall held under_way ports = record {
  state = state_of wall held under_way (open_of ports);
  closes = ports.closed;
  touched = ports.touched;
}

-- the port is found as it was in the first of these states, and owed what it was owed
abbrev pub IsAlike : ℕ → State → State → Type 0
IsAlike port was state =
    (find_port port state.ports ≡ find_port port was.ports) × (owed_of port state ≡ owed_of port was)

-- so is each port that was neither closed nor touched
abbrev pub IsSpared : State → Moved → Type 0
IsSpared was moved = (port : ℕ) → IsUntouched port moved.closes moved.touched → IsAlike port was moved.state

-- the same of what is under way and the open ports
abbrev pub AreSpared : State → UnderWay → MarkedPorts → Type 0
AreSpared was under_way ports = (port : ℕ) → IsUntouched port ports.closed ports.touched
    → (find_port port ports.ports ≡ find_port port was.ports)
    × (owed_by (find_port port ports.ports) under_way ≡ owed_of port was)

-- a state in which an event begins in the same second, with the wall clock at this one, and no port closed by it
abbrev pub begun : ℕ → State → Stepped
begun wall state = record {
  state = record state { moment = record { mono = state.moment.mono; wall = wall } };
  closes = [];
}

-- what an outcome leaves, with the ports that it closed among those that were closed before it
abbrev pub after : List ℕ → Outcome → Stepped
after closed outcome = record { state = outcome.state; closes = put_all closed outcome.closes }

-- the settings as the abstract agent sees them
abbrev pub settings_of : Stored → Settings
settings_of settings = record {
  life = settings.default_life;
  limits = record { ask = settings.ask_limit; confirmation = settings.confirm_limit };
}

-- the settings with which an agent in this state was started
abbrev pub settings_in : State → Settings
settings_in state = record { life = state.held.table.life; limits = state.under_way.limits }

-- an agent to which nothing has happened, with these settings
abbrev pub opening : Settings → Moved
opening settings = record { state = first_state settings; closes = []; touched = [] }
