-- What is put off from one poll to the next, and how old the clocks' reading may be (ours). epoll tells of a change
-- once: where a call leaves something that it told of, the next poll has to tell of that.
use Rattle.std.specs.Prelude.{◌≡◌, ◌≢◌, ◌⊎◌, ◌<◌, ◌≤◌, ◌+◌, ◌-◌, ◌%◌, ◌^◌, true, false, ℕ, List, [], Option, Some, None, Contains, IsTrue, IsSomeAnd, vec_len}
use Rattle.world_ports.specs.Causes.{next_count}
use Rattle.world_ports.specs.declared.answers.Ready.{Ready}
use Rattle.world_ports.specs.declared.answers.Spot.{Spot}
use Rattle.world_ports.specs.declared.answers.Spot.TheVariants.{Port}
use Rattle.world_ports.specs.declared.answers.Got.{Got}
use Rattle.world_ports.specs.declared.answers.Got.TheVariants as got
use Rattle.world_ports.specs.declared.answers.Wrote.{Wrote}
use Rattle.world_ports.specs.declared.answers.Wrote.TheVariants as wrote
use Rattle.slab.specs.Slab.{Slab, get}
use Rattle.unix_world.specs.declared.children.Children.{Children}
use Rattle.unix_world.specs.declared.clocks.Clocks.{Clocks}
use Rattle.unix_world.specs.declared.connection.Connection.{Connection}
use Rattle.unix_world.specs.declared.doors.Listener.{Listener}
use Rattle.unix_world.specs.declared.hello.Hello.{Hello}
use Rattle.unix_world.specs.declared.marks.Marks.{Marks}
use Rattle.unix_world.specs.declared.owed.Owed.{Owed}

-- a port or a listener is told of as readable, and a port as writable
abbrev pub readable_at : Spot → Ready
readable_at spot = record { spot = spot; readable = true; writable = false }

abbrev pub writable_at : Spot → Ready
writable_at spot = record { spot = spot; readable = false; writable = true }

-- there is no port of which the next poll has to tell
pub record IsNothingOwed (owed : Owed) : Type 0 where
  pub reads : owed.reads.items ≡ []
  pub writes : owed.writes.items ≡ []

-- a round begins, in which nothing is owed yet. Rounds are counted modulo 2^64
pub record BeginsRound (before now : Owed) : Type 0 where
  pub round : now.round ≡ (before.round + 1) % 2 ^ 64
  pub nothing : IsNothingOwed now

-- within a round, what was owed is owed still
pub record StaysOwed (before now : Owed) : Type 0 where
  pub round : now.round ≡ before.round
  pub reads : (port : ℕ) → Contains before.reads.items port → Contains now.reads.items port
  pub writes : (port : ℕ) → Contains before.writes.items port → Contains now.writes.items port

-- each port that is owed is told of, with the word that it is owed as
pub record IsTold (owed : Owed) (told : List Ready) : Type 0 where
  pub reads : (port : ℕ) → Contains owed.reads.items port → Contains told (readable_at (Port port))
  pub writes : (port : ℕ) → Contains owed.writes.items port → Contains told (writable_at (Port port))

-- a fact for a read that brought nothing yet, and for a write that found no room
abbrev pub OnNoBytes : Got → Type 0 → Type 0
OnNoBytes got.NotNow fact = fact
OnNoBytes got.End fact = Unit {0}
OnNoBytes (got.Bytes n) fact = Unit {0}

abbrev pub OnNoRoom : Wrote → Type 0 → Type 0
OnNoRoom wrote.NotNow fact = fact
OnNoRoom (wrote.Took n) fact = Unit {0}

-- a fact for a read that brought as many bytes as it may
abbrev pub OnMost : Got → ℕ → Type 0 → Type 0
OnMost (got.Bytes n) most fact = n ≡ most → fact
OnMost got.End most fact = Unit {0}
OnMost got.NotNow most fact = Unit {0}

-- the system was asked for bytes in this round, and had none: it tells once there are some
pub record HasNone (round : ℕ) (is : Marks) : Type 0 where
  pub asked : is.read_in ≡ round
  pub none : is.maybe_more ≡ is.has_ended

-- why a read brought nothing yet: nothing waits of which the system doesn't tell anew; this call asked, as the first of
-- its round, and the system had none; or the next poll tells of the port
abbrev pub WhyNoBytes : ℕ → ℕ → Marks → Marks → Owed → Type 0
WhyNoBytes round port was is owed =
    (is.maybe_more ≡ false)
    ⊎ (((was.read_in ≢ round) × HasNone round is)
    ⊎ Contains owed.reads.items port)

-- this call tried a write
pub record HasTried (round : ℕ) (was is : Marks) : Type 0 where
  pub tried : is.wrote_in ≡ round
  pub first : was.wrote_in ≢ round → is.writes ≡ 1
  pub next : was.wrote_in ≡ round → is.writes ≡ was.writes + 1

-- the hello was read to its end, and the connection goes on
abbrev pub IsSaid : Hello → Type 0
IsSaid hello = (33 ≤ hello.read) × (hello.has_ended ≡ false)

-- a connection whose child process, if it has one, has a handle and streams of these types
module _ {P I O E : Type 0} where
  -- a child process hasn't named itself here yet, so nothing is written there
  abbrev pub IsUnnamed : Connection P I O E → Type 0
  IsUnnamed connection = IsSomeAnd connection.child (λ child. ¬ (IsSaid child.hello))

  -- why a write found no room: it was tried, and epoll tells once there is some; a child process hasn't named itself;
  -- or the next poll tells of the port
  abbrev pub WhyNoRoom : ℕ → ℕ → Connection P I O E → Connection P I O E → Owed → Type 0
  WhyNoRoom round port was is owed =
      (HasTried round was.port.marks is.port.marks × (is.port.waits_for_room ≡ true))
      ⊎ (IsUnnamed was
      ⊎ Contains owed.writes.items port)

  -- the connection under this key has this number
  abbrev pub IsAt : Slab (Connection P I O E) → ℕ → ℕ → Type 0
  IsAt joined key number = IsSomeAnd (get joined key) (λ connection. connection.number ≡ Some number)

  -- of an open port a read brought nothing yet, and there is a reason
  pub record ReadsNothing (round port : ℕ) (before now : Slab (Connection P I O E)) (owed : Owed) : Type 0 where
    pub key : ℕ
    pub was : Connection P I O E
    pub is : Connection P I O E
    pub found : get before key ≡ Some was
    pub left : get now key ≡ Some is
    pub number : is.number ≡ Some port
    pub why : WhyNoBytes round port was.port.marks is.port.marks owed

  -- of an open port a write found no room, and there is a reason
  pub record WritesNothing (round port : ℕ) (before now : Slab (Connection P I O E)) (owed : Owed) : Type 0 where
    pub key : ℕ
    pub was : Connection P I O E
    pub is : Connection P I O E
    pub found : get before key ≡ Some was
    pub left : get now key ≡ Some is
    pub number : is.number ≡ Some port
    pub why : WhyNoRoom round port was is owed

  -- the child process that was started first of those that weren't accepted yet may be, of 32 at the most that haven't
  -- named themselves
  abbrev pub IsAwaited : Children P I O E → Type 0
  IsAwaited started = (started.accepted < 32) × (started.accepted < vec_len started.unnamed)

  -- what the next poll has to tell of is told at once: the system is asked for no wait
  pub record DoesNotWait
      (owed : Owed) (clients : Option Listener) (started : Children P I O E) (asked : Option ℕ) : Type 0 where
    pub reads : 0 < vec_len owed.reads → asked ≡ Some 0
    pub writes : 0 < vec_len owed.writes → asked ≡ Some 0
    pub listener : IsSomeAnd clients (λ door. IsTrue door.is_owed) → asked ≡ Some 0
    pub child : IsAwaited started → asked ≡ Some 0

-- so many milliseconds lie between two of the kernel's ticks; where there is no such clock they do
abbrev pub IsOver : ℕ → Option ℕ → Option ℕ → Type 0
IsOver millis (Some before) (Some now) = millis ≤ now - before
IsOver millis None now = Unit {0}
IsOver millis (Some before) None = Unit {0}

-- it is still the same tick
abbrev pub IsSameTick : Option ℕ → Option ℕ → Type 0
IsSameTick (Some before) (Some now) = before ≡ now
IsSameTick None now = ⊥
IsSameTick (Some before) None = ⊥

-- a look asks for the tick: the first of a round, the 64th since the reading was dated and any behind it, and of those
-- before every other one from the third on
abbrev pub Asks : ℕ → Clocks → Type 0
Asks round was = (was.dated_in ≢ round) ⊎ ((63 ≤ was.looks) ⊎ ((2 ≤ was.looks) × (was.looks % 2 ≡ 0)))

-- a look changes no more than the count of looks
pub record OnlyCounts (was is : Clocks) : Type 0 where
  pub looks : is.looks ≡ was.looks + 1
  pub dated : is.dated_at ≡ was.dated_at
  pub readings : is.readings ≡ was.readings

-- the reading is as old as the tick that was asked for: both clocks were read, unless that is still the reading's
pub record IsDated (round : ℕ) (was is : Clocks) : Type 0 where
  pub dated : is.dated_in ≡ round
  pub looks : is.looks ≡ 0
  pub tick : is.dated_at ≡ is.tick
  pub readings : ¬ (IsSameTick was.dated_at is.tick) → is.readings ≡ next_count was.readings

-- a look that asks for the tick dates the reading where it is the first of its round or the 64th, or where 10
-- milliseconds are over, and nowhere else; behind 10 milliseconds of a round that is a long one
pub record AsksTick (round : ℕ) (was is : Clocks) : Type 0 where
  pub counted : is.asks ≡ next_count was.asks
  pub first : was.dated_in ≢ round → IsDated round was is
  pub begun : was.dated_in ≢ round → is.began_at ≡ is.tick
  pub many : 63 ≤ was.looks → IsDated round was is
  pub old : IsOver 10 was.dated_at is.tick → IsDated round was is
  pub young : was.dated_in ≡ round → was.looks < 63 → ¬ (IsOver 10 was.dated_at is.tick) → OnlyCounts was is
  pub long : was.dated_in ≡ round → IsOver 10 was.began_at is.tick → is.long_in ≡ round

-- a look at the clocks
pub record Looks (round : ℕ) (was is : Clocks) : Type 0 where
  pub asked : Asks round was → AsksTick round was is
  pub quiet : ¬ (Asks round was) → OnlyCounts was is × (is.asks ≡ was.asks)
