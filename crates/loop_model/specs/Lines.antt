-- What is ready: a list of what can be served, in the order in which it is served, and beside it the set of what can't
-- be and was set aside (ours). What an event lets be served comes behind all others, but before what was served.
use Rattle.std.specs.Prelude.{◌≡◌, ℕ, Bool, true, false, List, [], ◌∷◌, ◌++◌, Option, Some, None, ◌&&◌, not, if◌then◌else◌}
use Rattle.std.specs.List.{filter, list_any}
use Rattle.world_ports.specs.declared.answers.Ready.{Ready}
use Rattle.world_ports.specs.declared.answers.Spot.{Spot}
use Rattle.world_ports.specs.declared.answers.Spot.TheVariants as spot
use Rattle.agent_model.specs.State.{State, is_open, starts}
use Rattle.loop_model.specs.Servable.{has_job, is_servable}
use Rattle.loop_model.specs.Elsewhere.{stands}
use Rattle.loop_model.specs.Things.{set_of}
use Rattle.loop_model.specs.declared.thing.Thing.{Thing}
use Rattle.loop_model.specs.declared.thing.Thing.TheVariants.{Accept, Read, Write}
use Rattle.loop_model.specs.Aside.{Aside, put_aside, still_aside, taken_back, things_aside}
use Rattle.loop_model.specs.Queues.{AreApart, dropped}

-- the queue, what is set aside, and whether a client has connected
pub record Line : Type 0 where
  pub queue : List Thing
  pub aside : Aside
  pub joined : Bool

-- nothing is ready, and no client has connected
abbrev pub empty_line : Line
empty_line = record { queue = []; aside = record { doors = []; reads = []; writes = [] }; joined = false }

-- all that is ready
abbrev pub hot_of : Line → Thing → Bool
hot_of line = set_of (line.queue ++ things_aside line.aside)

-- nothing that is ready can be served, and no job waits
abbrev pub is_idle : State → Line → Bool
is_idle state line =
    not (has_job (starts state)) && not (list_any (is_servable state) (line.queue ++ things_aside line.aside))

-- nothing that is set aside can be served
abbrev pub IsQuiet : State → Line → Type 0
IsQuiet state line =
    (thing : Thing) → set_of (things_aside line.aside) thing ≡ true → is_servable state thing ≡ false

-- all of these can be served
abbrev pub IsListed : State → List Thing → Type 0
IsListed state queue = (thing : Thing) → set_of queue thing ≡ true → is_servable state thing ≡ true

-- what the list holds can be served, and what is set aside can't be
pub record IsOrdered (state : State) (line : Line) : Type 0 where
  pub listed : IsListed state line.queue
  pub quiet : IsQuiet state line

-- the list holds, each once, exactly those ready things that can be served
pub record IsExact (state : State) (line : Line) : Type 0 where
  pub each : (thing : Thing) → set_of line.queue thing ≡ (hot_of line thing && is_servable state thing)
  pub once : AreApart line.queue

-- ---- a thing is served

-- this thing is in hand until its event has happened
abbrev pub in_hand : Thing → Line → Line
in_hand thing line = record line { queue = dropped thing line.queue }

-- ---- a thing becomes ready

-- it stands behind the others, or is set aside where it can't be served
abbrev pub placed : State → Thing → Line → Line
placed state thing line =
    if is_servable state thing
    then record line { queue = line.queue ++ thing ∷ [] } else record line { aside = put_aside thing line.aside }

-- this thing is ready: placed where it is new
abbrev pub queued : State → Thing → Line → Line
queued state thing line = if hot_of line thing then line else placed state thing line

-- the line with this thing queued, where the test holds
abbrev pub queued_if : Bool → State → Thing → Line → Line
queued_if true state thing line = queued state thing line
queued_if false state thing line = line

-- the line with both directions of a connection queued
abbrev pub queued_port : State → ℕ → Line → Line
queued_port state port line = queued state (Write port) (queued state (Read port) line)

-- what a poll's item makes ready
abbrev pub queued_by : State → Spot → Bool → Bool → Line → Line
queued_by state (spot.Door door) readable writable line = queued_if readable state (Accept door) line
queued_by state (spot.Port port) readable writable line =
    queued_if (writable && is_open port state) state (Write port)
    (queued_if (readable && is_open port state) state (Read port) line)

-- what all items make ready
abbrev pub queued_all : State → List Ready → Line → Line
queued_all state [] line = line
queued_all state (item ∷ items) line =
    queued_all state items (queued_by state item.spot item.readable item.writable line)

-- ---- an event happened

-- what is set aside, without what was to be read or written at these ports, which were closed
abbrev pub gone_aside : List ℕ → Aside → Aside
gone_aside [] aside = aside
gone_aside (port ∷ ports) aside = gone_aside ports (taken_back (Write port) (taken_back (Read port) aside))

-- these things are set aside
abbrev pub all_aside : List Thing → Aside → Aside
all_aside [] aside = aside
all_aside (thing ∷ things) aside = all_aside things (put_aside thing aside)

-- it can't be served any more, and isn't at a port that was closed: a listener, once the last number is taken
abbrev pub is_stuck : State → Thing → Bool
is_stuck state thing = not (is_servable state thing) && stands thing state

-- what can be served keeps its place; what can't be any more is set aside, but for what is at a port that was closed
abbrev pub settled : State → List ℕ → Line → Line
settled state closes line = record line {
  queue = filter (is_servable state) line.queue;
  aside = gone_aside closes (all_aside (filter (is_stuck state) line.queue) line.aside);
}

-- this thing comes back where it was set aside
abbrev pub brought : Thing → Line → Line
brought thing line =
    if set_of (things_aside line.aside) thing
    then record line { queue = line.queue ++ thing ∷ []; aside = taken_back thing line.aside } else line

-- the line with a thing called back from aside, where it can be served
abbrev pub called : State → Thing → Line → Line
called state thing line = if is_servable state thing then brought thing line else line

-- the line with both directions of the event's port called back from aside
abbrev pub called_own : State → Option ℕ → Line → Line
called_own state None line = line
called_own state (Some port) line = called state (Write port) (called state (Read port) line)

-- all that was set aside and can be served comes back
abbrev pub called_all : State → Line → Line
called_all state line = record line {
  queue = line.queue ++ filter (is_servable state) (things_aside line.aside);
  aside = still_aside state line.aside;
}

-- the event's own port first
abbrev pub recalled : State → Option ℕ → Line → Line
recalled state own line = called_all state (called_own state own line)

-- what was served stands last, or is set aside where it can't be served; it isn't ready where the event closed its port
abbrev pub returned : State → Option Thing → Line → Line
returned state None line = line
returned state (Some thing) line = if stands thing state then placed state thing line else line

-- after an event that leads to this state, closed these ports, is of this port, and came of this thing's service
abbrev pub after_event : State → List ℕ → Option ℕ → Option Thing → Line → Line
after_event state closes own thing line =
    returned state thing (recalled state own (settled state closes line))
