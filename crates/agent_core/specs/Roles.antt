-- Who is at a port, as the code tells it (ours).
use Rattle.std.specs.Prelude.{ℕ, Bool, true, false, List, Option, Some, None, min, nat_lt, if◌then◌else◌}
use Rattle.world_ports.specs.declared.Door.{Door}
use Rattle.world_ports.specs.declared.Door.TheVariants.{Clients, Children}
use Rattle.helper_link.specs.declared.state.LinkState.{LinkState}
use Rattle.helper_link.specs.declared.state.LinkState.TheVariants as states
use Rattle.agent_core.specs.declared.role.Role.{Role as CoreRole}
use Rattle.agent_core.specs.declared.role.Role.TheVariants as core
use Rattle.agent_model.specs.State.{Client, Confirmer, Helper, Port, Role, UnderWay, Unnamed, find_port, is_some_bytes, role_of}

-- a role as the code tells it: not which confirmation it is
abbrev pub role_kind : Role → CoreRole
role_kind Client = core.Client
role_kind Unnamed = core.Unnamed
role_kind Helper = core.Helper
role_kind (Confirmer confirmation) = core.Confirmer

-- a child process that hasn't named itself
abbrev pub is_unnamed_kind : CoreRole → Bool
is_unnamed_kind core.Client = false
is_unnamed_kind core.Unnamed = true
is_unnamed_kind core.Helper = false
is_unnamed_kind core.Confirmer = false

-- who is at a port, where it is open
abbrev pub role_by : Option Port → UnderWay → Option Role
role_by None under_way = None
role_by (Some port) under_way = Some (role_of port.door port.number under_way)

-- the door through which a port came, where it is open
abbrev pub door_by : Option Port → Option Door
door_by None = None
door_by (Some port) = Some port.door

-- the helper's port of this number, where it is a child process's and bytes are to be sent to it
abbrev pub helper_owed_if : Door → Bool → ℕ → Option ℕ
helper_owed_if Clients some number = None
helper_owed_if Children some number = if some then Some number else None

-- the same where the port is open
abbrev pub helper_owed : Option Door → ℕ → List ℕ → Option ℕ
helper_owed None number owed = None
helper_owed (Some door) number owed = helper_owed_if door (is_some_bytes owed) number

-- the helper's port, where it is open and owed bytes
abbrev pub owed_helper_by : LinkState → List ℕ → List Port → Option ℕ
owed_helper_by states.None owed ports = None
owed_helper_by (states.Starting job) owed ports = None
owed_helper_by (states.Linked port) owed ports = helper_owed (door_by (find_port port ports)) port owed

-- the same of what is under way
abbrev pub owed_helper : UnderWay → List Port → Option ℕ
owed_helper under_way ports = owed_helper_by under_way.link.state under_way.link.owed ports

-- the client, or the helper where that is above this number and comes first
abbrev pub next_of : ℕ → Option ℕ → Option ℕ → Option ℕ
next_of after client None = client
next_of after None (Some helper) = if nat_lt after helper then Some helper else None
next_of after (Some client) (Some helper) = if nat_lt after helper then Some (min client helper) else Some client
