-- Which port an event is of, when a wait ends, and what an event may end that can be served (ours).
use Rattle.std.specs.Prelude.{ℕ, suc, max, nat_lt, Bool, true, false, Option, Some, None, not, ◌==◌, ◌||◌}
use Rattle.std.specs.List.{list_any}
use Rattle.world_ports.specs.declared.events.Moment.{Moment}
use Rattle.agent_model.specs.Events.{Happening, Joined, Heard, Ended, Took, Started, StartFailed, Tick}
use Rattle.agent_model.specs.State.{Port, State, UnderWay, is_client, is_open, next_due}
use Rattle.agent_model.specs.Time.{is_helper_late, is_late, taken_in}
use Rattle.loop_model.specs.declared.thing.Thing.{Thing}
use Rattle.loop_model.specs.declared.thing.Thing.TheVariants.{Accept, Read, Write}

-- the event is of this port: the one that joins, by the number of the last that joined before it, or that it names
abbrev pub is_of : Happening → ℕ → ℕ → Bool
is_of (Joined door) last port = suc last == port
is_of (Heard number piece) last port = number == port
is_of (Ended number) last port = number == port
is_of (Took number count) last port = number == port
is_of (Started job ticket) last port = false
is_of (StartFailed job) last port = false
is_of Tick last port = false

-- the port is open, and a client's
abbrev pub is_clients : Option Port → Bool
is_clients None = false
is_clients (Some port) = is_client port.door

-- something under way has been waited for as long as it may be: an answer of the helper, or the user's consent
abbrev pub ends_by : UnderWay → Bool
ends_by under_way = is_helper_late under_way || list_any (is_late under_way) under_way.confirmations

-- once the moment was taken in, a wait is over, which tells clients and closes ports of child processes
abbrev pub ends_waits : Moment → State → Bool
ends_waits moment state = ends_by (taken_in moment state).under_way

-- the clock has come to this second, where there is one
abbrev pub has_come : Option ℕ → ℕ → Bool
has_come None second = false
has_come (Some due) second = not (nat_lt second due)

-- at the moment something is due: an identity dies, or a wait ends
abbrev pub is_due : Moment → State → Bool
is_due moment state = has_come (next_due state) (max state.moment.mono moment.mono)

-- the event is that bytes came at this port
abbrev pub brings_bytes : Happening → ℕ → Bool
brings_bytes (Joined door) port = false
brings_bytes (Heard number piece) port = number == port
brings_bytes (Ended number) port = false
brings_bytes (Took number count) port = false
brings_bytes (Started job ticket) port = false
brings_bytes (StartFailed job) port = false
brings_bytes Tick port = false

-- the event is that bytes went at this port
abbrev pub takes_bytes : Happening → ℕ → Bool
takes_bytes (Joined door) port = false
takes_bytes (Heard number piece) port = false
takes_bytes (Ended number) port = false
takes_bytes (Took number count) port = number == port
takes_bytes (Started job ticket) port = false
takes_bytes (StartFailed job) port = false
takes_bytes Tick port = false

-- the event is that a port joined
abbrev pub is_joining : Happening → Bool
is_joining (Joined door) = true
is_joining (Heard number piece) = false
is_joining (Ended number) = false
is_joining (Took number count) = false
is_joining (Started job ticket) = false
is_joining (StartFailed job) = false
is_joining Tick = false

-- the event came of this thing's own service, or it may have taken the last number, so that no listener can be served
abbrev pub may_end : Happening → Thing → Bool
may_end event (Accept door) = is_joining event
may_end event (Read port) = brings_bytes event port
may_end event (Write port) = takes_bytes event port

-- the port is open, and a child process's
abbrev pub is_child : Option Port → Bool
is_child None = false
is_child (Some port) = not (is_client port.door)

-- the thing is a listener, or its port is open
abbrev pub stands : Thing → State → Bool
stands (Accept door) state = true
stands (Read port) state = is_open port state
stands (Write port) state = is_open port state
