-- An earlier and a later state of one recorder (ours).
use Rattle.std.specs.Prelude.{◌≡◌, ◌≤◌, ◌++◌, ◌||◌, ◌⊎◌, Bool, true, false, ℕ, List, [], ◌∷◌, codes, length, Option}
use Rattle.std.specs.Io.KnownBytes.{Appends}
use Rattle.world_ports.specs.Causes.{Rose}
use Rattle.world_ports.specs.Journal.{Grows}
use Rattle.world_ports.specs.Streams.{OnlyWrites, StreamView, WritesPart}
use Rattle.world_ports.specs.declared.entry.Entry.{Entry}
use Rattle.record_world.specs.Recording.{Recording, is_full, record_from, recording_after}

-- the side of a recorder that writes: what its sink tells, and the sink where it says why the record broke; whether it
-- broke, whether memory ran out, and what is kept between two entries
pub record Taped : Type 0 where
  pub sink : StreamView
  pub errors : StreamView
  pub is_broken : Bool
  pub is_short : Bool
  pub recording : Recording

-- the writing side with these parts
abbrev pub taped : StreamView → StreamView → Bool → Bool → Recording → Taped
taped sink errors is_broken is_short recording =
    record { sink = sink; errors = errors; is_broken = is_broken; is_short = is_short; recording = recording }

-- it writes nothing more
abbrev pub is_stopped : Taped → Bool
is_stopped tape = tape.is_broken || tape.is_short

-- a text stands at the front of another
pub record IsFront (text all : List ℕ) : Type 0 where
  pub more : List ℕ
  pub is : text ++ more ≡ all

-- all lines of these entries, and what they leave, which takes no more room than it may unless that before them does
pub record IsWhole (before after : Recording) (entries : List Entry) (text : List ℕ) : Type 0 where
  pub lines : text ≡ record_from before entries
  pub left : after ≡ recording_after before entries
  pub fits : is_full before ≡ false → is_full after ≡ false

-- what was written of these entries, by whether it was stopped before, and is since
abbrev pub IsWritten : Bool → Bool → Recording → Recording → List Entry → List ℕ → Type 0
IsWritten true stopped before after entries text = text ≡ []
IsWritten false true before after entries text = IsFront text (record_from before entries)
IsWritten false false before after entries text = IsWhole before after entries text

-- one that is broken or short stays so
abbrev pub Stays : Bool → Bool → Type 0
Stays true now = now ≡ true
Stays false now = Unit {0}

-- what was written of a text: all, or a front of it where the sink failed
abbrev pub PutsText : Bool → List ℕ → StreamView → StreamView → Type 0
PutsText false text before after = Appends before.written after.written text
PutsText true text before after = WritesPart text before after

-- a write failed exactly where the sink counted that
abbrev pub FailsFor : Bool → ℕ → ℕ → Type 0
FailsFor true before after = Rose before after
FailsFor false before after = after ≡ before

-- a text was put, or the sink failed and counted that
pub record Puts (text : List ℕ) (before after : StreamView) (failed : Bool) : Type 0 where
  pub only : OnlyWrites before after
  pub cause : FailsFor failed before.write_faults after.write_faults
  pub written : PutsText failed text before after

-- the line that says that a write of the record failed
abbrev pub unwritten_line : List ℕ
unwritten_line = codes "mortarleek: the record can't be written: nothing more is recorded\n"

-- the line that says that passphrases have no room
abbrev pub no_room_line : List ℕ
no_room_line = codes "mortarleek: no room for more passphrases that were tried: nothing more is recorded\n"

-- a line was said: put once, and nothing else
pub record Says (line : List ℕ) (before after : StreamView) : Type 0 where
  pub failed : Bool
  pub puts : Puts line before after failed

-- the sink counted a failed write, and that was said
pub record FailsToWrite (before after : ℕ) (errors later : StreamView) : Type 0 where
  pub rose : Rose before after
  pub says : Says unwritten_line errors later

-- the passphrases take more room than they may while no write failed, and that was said
pub record LacksRoom (full : Bool) (before after : ℕ) (errors later : StreamView) : Type 0 where
  pub over : full ≡ true
  pub kept : after ≡ before
  pub says : Says no_room_line errors later

-- one that was stopped doesn't break any more; another broke exactly where the sink counted a failed write, or where
-- the passphrases of these entries take more room than they may. Which of both it was is said then, and else nothing
abbrev pub BreaksFor : Bool → Bool → Bool → ℕ → ℕ → Bool → StreamView → StreamView → Type 0
BreaksFor true was now before after full errors later = (now ≡ was) × (after ≡ before) × (later ≡ errors)
BreaksFor false was true before after full errors later =
    FailsToWrite before after errors later ⊎ LacksRoom full before after errors later
BreaksFor false was false before after full errors later = (after ≡ before) × (later ≡ errors)

-- that a write of the record failed was said where it did, and nothing where it didn't
abbrev pub SaysIf : Bool → StreamView → StreamView → Type 0
SaysIf true errors later = Says unwritten_line errors later
SaysIf false errors later = later ≡ errors

-- since then it wrote the lines of these entries: all, or where it is stopped since a front of them, and nothing where it
-- was stopped before
pub record Writes (entries : List Entry) (before after : Taped) : Type 0 where
  pub text : List ℕ
  pub written : Appends before.sink.written after.sink.written text
  pub only : OnlyWrites before.sink after.sink
  pub broken : Stays before.is_broken after.is_broken
  pub short : Stays before.is_short after.is_short
  pub cause : BreaksFor (is_stopped before) before.is_broken after.is_broken before.sink.write_faults after.sink.write_faults
      (is_full (recording_after before.recording entries)) before.errors after.errors
  pub lines : IsWritten (is_stopped before) (is_stopped after) before.recording after.recording entries text

-- the same for one entry: where its call wanted memory, nothing, as of any entries
abbrev pub WritesOf : Bool → Entry → Taped → Taped → Type 0
WritesOf true one before after = (entries : List Entry) → Writes entries before after
WritesOf false one before after = Writes (one ∷ []) before after

-- the calls end with what is written: none came where it was stopped before, and the lines of these entries, or of all
-- but the last, stand in front of the text
pub record EndsCalls (was_stopped : Bool) (before : Recording) (entries : List Entry) (text : List ℕ) : Type 0 where
  pub told : List Entry
  pub last : List Entry
  pub split : entries ≡ told ++ last
  pub one : length last ≤ 1
  pub front : IsFront (record_from before told) text
  pub none : was_stopped ≡ true → entries ≡ []

-- the entries that the journal has since then are those whose lines were written, and where they are to end with that,
-- they do
pub record Leads (or_stop : Bool) (journal later : Option (List Entry)) (before after : Taped) : Type 0 where
  pub entries : List Entry
  pub grows : Grows journal later entries
  pub writes : Writes entries before after
  pub ends : or_stop ≡ true → EndsCalls (is_stopped before) before.recording entries writes.text

-- what is written of lists of entries is an order
pub record IsOrder : Type 0 where
  pub stays : (tape : Taped) → Writes [] tape tape
  pub goes_on : (first then last : Taped) (early late : List Entry) → Writes early first then → Writes late then last
      → Writes (early ++ late) first last
