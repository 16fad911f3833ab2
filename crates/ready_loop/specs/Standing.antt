-- What holds of a line in storage, so that the front of its queue and the ports that an event touched are all that a turn looks at (ours).
use Rattle.std.specs.Prelude.{◌≡◌, ℕ, Bool, true, false, List, [], ◌∷◌, ◌++◌, Option, Some, None, not, if◌then◌else◌}
use Rattle.lists.specs.Rising.{is_among}
use Rattle.world_ports.specs.declared.events.Door.{Door}
use Rattle.agent_model.specs.State.{State, is_open}
use Rattle.loop_model.specs.Elsewhere.{stands}
use Rattle.loop_model.specs.Servable.{is_servable}
use Rattle.loop_model.specs.Things.{set_of}
use Rattle.loop_model.specs.declared.thing.Thing.{Thing}
use Rattle.loop_model.specs.declared.thing.Thing.TheVariants.{Accept, Read, Write}
use Rattle.loop_model.specs.Aside.{Aside, put_aside, taken_back, things_aside}
use Rattle.loop_model.specs.Fairness.{GoesRound, KeepsOrder}
use Rattle.loop_model.specs.Lines.{Line, called, hot_of}
use Rattle.loop_model.specs.Queues.{AreApart, dropped}

-- nothing stands twice in the queue, nor both there and aside
pub record IsOnce (queue : List Thing) (aside : Aside) : Type 0 where
  pub apart : AreApart queue
  pub either : (thing : Thing) → set_of queue thing ≡ true → set_of (things_aside aside) thing ≡ false

-- the thing stands at the front
abbrev pub IsFront : Thing → List Thing → Type 0
IsFront thing [] = ⊥
IsFront thing (first ∷ things) = first ≡ thing

-- the thing at the front
abbrev pub front_of : List Thing → Option Thing
front_of [] = None
front_of (thing ∷ things) = Some thing

-- what was served isn't ready, where something was
abbrev pub IsCold : Option Thing → Line → Type 0
IsCold None line = Unit {0}
IsCold (Some thing) line = hot_of line thing ≡ false

-- ---- what a thing becomes

-- it stands last, and not aside
abbrev pub listed_last : Thing → Line → Line
listed_last thing line =
    record line { queue = line.queue ++ thing ∷ []; aside = taken_back thing line.aside }

-- ---- what an event leaves

-- the line without this thing, wherever it stands
abbrev pub without : Thing → Line → Line
without thing line =
    record line { queue = dropped thing line.queue; aside = taken_back thing line.aside }

-- the line without what was to be read or written at a port that was closed, and at any of these
abbrev pub without_port : ℕ → Line → Line
without_port port line = without (Write port) (without (Read port) line)

-- the line without what was to be read or written at any of these ports
abbrev pub without_ports : List ℕ → Line → Line
without_ports [] line = line
without_ports (port ∷ ports) line = without_ports ports (without_port port line)

-- the line with this listener set aside, where it stands in the queue
abbrev pub door_aside : Door → Line → Line
door_aside door line =
    if set_of line.queue (Accept door)
    then record line { queue = dropped (Accept door) line.queue; aside = put_aside (Accept door) line.aside }
    else line

-- the thing is at one of these ports
abbrev pub is_at_any : List ℕ → Thing → Bool
is_at_any ports (Accept door) = false
is_at_any ports (Read port) = is_among port ports
is_at_any ports (Write port) = is_among port ports

-- the thing is a listener's
abbrev pub is_listener : Thing → Bool
is_listener (Accept door) = true
is_listener (Read port) = false
is_listener (Write port) = false

-- what stood in the queue can be served but for what is at a port that was closed, and for one listener
pub record IsKept (state : State) (closes : List ℕ) (queue : List Thing) : Type 0 where
  pub gone : (thing : Thing) → set_of queue thing ≡ true
      → stands thing state ≡ not (is_at_any closes thing)
  pub kept : (thing : Thing) → set_of queue thing ≡ true → is_listener thing ≡ false
      → stands thing state ≡ true → is_servable state thing ≡ true
  pub one : (door other : Door) → set_of queue (Accept door) ≡ true
      → set_of queue (Accept other) ≡ true → is_servable state (Accept door) ≡ false → door ≡ other

-- it can't be served once this port is closed
abbrev pub IsAt : ℕ → Thing → Type 0
IsAt port thing = (state : State) → is_open port state ≡ false → is_servable state thing ≡ false

-- ---- a turn

-- the list goes round its first thing: but where a job is started, and where it is empty, it keeps its order
abbrev pub Rounds : (starts : Bool) → List Thing → List Thing → Type 0
Rounds true before after = KeepsOrder before after
Rounds false [] after = KeepsOrder [] after
Rounds false (thing ∷ others) after = GoesRound thing (thing ∷ others) after

-- ---- what comes back

-- of what is set aside nothing can be served but what is at one of these ports
abbrev pub IsStirred : State → List ℕ → Line → Type 0
IsStirred state ports line = (thing : Thing) → set_of (things_aside line.aside) thing ≡ true
    → is_servable state thing ≡ true → is_at_any ports thing ≡ true

-- these things come back, one after another, where they were set aside and can be served
abbrev pub called_each : State → List Thing → Line → Line
called_each state [] line = line
called_each state (thing ∷ things) line = called_each state things (called state thing line)
