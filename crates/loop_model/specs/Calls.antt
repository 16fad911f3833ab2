-- What a call on the world leaves of the line, by its answer (ours). Read from the end.
use Rattle.std.specs.Prelude.{ℕ, List, Option, Some, None, Ok, Err, ◌||◌}
use Rattle.world_ports.specs.declared.answers.Accepted.TheVariants as accepted
use Rattle.world_ports.specs.declared.answers.Polled.TheVariants as polled
use Rattle.world_ports.specs.declared.entry.Entry.{Entry}
use Rattle.world_ports.specs.declared.entry.Entry.TheVariants as entry
use Rattle.agent_model.specs.State.{State, is_client}
use Rattle.agent_model.specs.Events.{Happening, Joined, Heard, Took}
use Rattle.loop_model.specs.Dues.{Due, Free, NowFor, port_of}
use Rattle.loop_model.specs.declared.thing.Thing.{Thing}
use Rattle.loop_model.specs.declared.thing.Thing.TheVariants.{Accept, Read, Write}
use Rattle.loop_model.specs.Lines.{Line, after_event, in_hand, queued_all, queued_port}

-- ---- the line after a call: what was served is in hand until its event has happened, and isn't ready where none came

-- the thing whose service brought an event, but for a port that ended
abbrev pub served_of : Happening → Option Thing
served_of (Joined door) = Some (Accept door)
served_of (Heard port piece) = Some (Read port)
served_of (Took port count) = Some (Write port)
served_of other = None

-- a call as it is read: the state in which it came, what had to come there, and the state and the closed ports that it
-- leaves
pub record Move : Type 0 where
  pub state : State
  pub due : Due
  pub left : State
  pub closes : List ℕ

-- the moment of an event, or of a look, with the state and the closed ports that it leaves
abbrev pub moved_on : Due → State → List ℕ → Line → Line
moved_on (NowFor event) left closes line = after_event left closes (port_of event left.last_port) (served_of event) line
moved_on Free left closes line = after_event left closes None None line
-- no moment may come there
moved_on other left closes line = line

-- any call
abbrev pub moved : Move → Entry → Line → Line
moved move (entry.Bind door path answer) line = line
moved move (entry.Poll wait items (Ok polled.Some)) line = queued_all move.state items line
moved move (entry.Poll wait items (Ok polled.Over)) line = line
moved move (entry.Poll wait items (Err fault)) line = line
-- both directions of a connection are ready once it has joined
moved move (entry.Accept door (Ok (accepted.Port number))) line =
    record (queued_port move.state number (in_hand (Accept door) line)) { joined = is_client door || line.joined }
moved move (entry.Accept door (Ok accepted.NotNow)) line = in_hand (Accept door) line
moved move (entry.Accept door (Err fault)) line = in_hand (Accept door) line
moved move (entry.Read port room bytes answer) line = in_hand (Read port) line
moved move (entry.Write port offered answer) line = in_hand (Write port) line
moved move (entry.Close port answer) line = line
moved move (entry.Start job answer) line = line
moved move (entry.Now (Ok moment)) line = moved_on move.due move.left move.closes line
moved move (entry.Now (Err want)) line = line
