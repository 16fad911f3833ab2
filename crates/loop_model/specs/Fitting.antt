-- The events of a legal journal, and what is asked of its entries so that they have the numbers of their types (ours).
use Rattle.std.specs.Prelude.{◌≡◌, ℕ, ◌^◌, ◌<◌, ◌≤◌, List, [], ◌∷◌, ◌++◌, length, IfOk}
use Rattle.world_ports.specs.Worlds.{read_room}
use Rattle.world_ports.specs.declared.entry.Entry.{Entry}
use Rattle.world_ports.specs.declared.entry.Entry.TheVariants as entry
use Rattle.world_ports.specs.declared.events.Moment.{Moment}
use Rattle.wire_text.specs.Wire.{IsBytes}
use Rattle.agent_model.specs.Events.{Happening, Timed, Joined, Heard, Ended, Took, Started, StartFailed, Tick}
use Rattle.loop_model.specs.Dues.{Due, Free, NowFor, Closing, Polling, Nothing}
use Rattle.loop_model.specs.LegalJournal.{LoopState, after_entry, events_brought}

-- ---- what comes

-- the events that these entries bring, from one reading on
abbrev pub journal_events : LoopState → List Entry → List Timed
journal_events reading [] = []
journal_events reading (next ∷ later) =
    events_brought reading.due next ++ journal_events (after_entry reading next) later

-- the event whose moment has to come next, if any, is so
abbrev pub OfDue : (Happening → Type 0) → Due → Type 0
OfDue IsSo Free = Unit {0}
OfDue IsSo (NowFor event) = IsSo event
OfDue IsSo (Closing port later) = Unit {0}
OfDue IsSo Polling = Unit {0}
OfDue IsSo Nothing = Unit {0}

-- a piece is what one read has room for
abbrev pub IsOfOneRead : Happening → Type 0
IsOfOneRead (Joined door) = Unit {0}
IsOfOneRead (Heard port piece) = length piece ≤ read_room
IsOfOneRead (Ended port) = Unit {0}
IsOfOneRead (Took port count) = Unit {0}
IsOfOneRead (Started job ticket) = Unit {0}
IsOfOneRead (StartFailed job) = Unit {0}
IsOfOneRead Tick = Unit {0}

-- each piece of these events is
abbrev pub AreOfOneRead : List Timed → Type 0
AreOfOneRead [] = Unit {0}
AreOfOneRead (timed ∷ later) = IsOfOneRead timed.event × AreOfOneRead later

-- ---- the numbers of entries

-- both clocks have 64 bits
pub record IsMoment (moment : Moment) : Type 0 where
  pub mono : moment.mono < 2 ^ 64
  pub wall : moment.wall < 2 ^ 64

-- a ticket has 16 bytes
pub record IsTicket (ticket : List ℕ) : Type 0 where
  pub bytes : IsBytes ticket
  pub size : length ticket ≡ 16

-- an entry has the numbers of its types: bytes are below 256, a ticket has 16 of them, and each other number has 64 bits
abbrev pub IsTyped : Entry → Type 0
IsTyped (entry.Bind door path answer) = Unit {0}
IsTyped (entry.Poll wait items answer) = Unit {0}
IsTyped (entry.Accept door answer) = Unit {0}
IsTyped (entry.Read port room bytes answer) = (port < 2 ^ 64) × IsBytes bytes
IsTyped (entry.Write port offered answer) = (port < 2 ^ 64) × (length offered < 2 ^ 64)
IsTyped (entry.Close port answer) = Unit {0}
IsTyped (entry.Start job answer) = (job.number < 2 ^ 64) × IfOk answer IsTicket
IsTyped (entry.Now answer) = IfOk answer IsMoment

-- each of these entries has them
abbrev pub AreTyped : List Entry → Type 0
AreTyped [] = Unit {0}
AreTyped (next ∷ later) = IsTyped next × AreTyped later
