-- What the end of `serve --record` says of its output and its errors (ours): `Records`, `Breaks`. From here on down,
-- each file read from its end:
--   record_world, specs/Recording.antt: the lines of each call, and when they are written
--   redact_core, specs/Redaction.antt: a message without its secrets
use Rattle.std.specs.Prelude.{◌≡◌, ◌++◌, ◌∷◌, ◌⊎◌, Bool, true, ℕ, List, Option, Some, None}
use Rattle.std.specs.Io.KnownBytes.{Appends}
use Rattle.world_ports.specs.Causes.{Rose}
use Rattle.world_ports.specs.Journal.{Grows}
use Rattle.world_ports.specs.Streams.{StreamView}
use Rattle.world_ports.specs.declared.entry.Entry.{Entry}
use Rattle.record_world.specs.Leads.{FailsToWrite, IsFront, Says, no_room_line}
use Rattle.redact_core.specs.Redaction.{is_over}
use Rattle.record_world.specs.Recording.{first_recording, record_of, recording_after}
use Rattle.agent_top.specs.declared.status.Status.{Status}
use Rattle.agent_top.specs.declared.status.Status.TheVariants as status

-- the passphrases of these calls take more room than they may
abbrev pub HaveNoRoom : List Entry → Type 0
HaveNoRoom calls = is_over (recording_after first_recording calls).passphrases ≡ true

-- the record of the calls was written: all of it, or a front where a write failed, the passphrases have no room or the
-- status says that a call of the record ended the agent; it tells no fault only where they have room. Where the agent is
-- to end with the record, no call was made unless the record of those before it was written. That the passphrases have no
-- room was said, unless a write failed or the status says that a call of the record ended the agent
pub record Records (or_stop : Bool) (result : Status) (old new errors said : StreamView) (calls : List Entry) : Type 0 where
  pub text : List ℕ
  pub written : Appends old.written new.written text
  pub front : IsFront text (record_of calls)
  pub whole : ¬ (Rose old.write_faults new.write_faults) → ¬ (HaveNoRoom calls) → ¬ (result ≡ status.RecordFault)
      → text ≡ record_of calls
  pub told : ¬ (Rose old.write_faults new.write_faults) → HaveNoRoom calls → ¬ (result ≡ status.RecordFault)
      → Says no_room_line errors said
  pub room : result ≡ status.Done → ¬ (HaveNoRoom calls)
  pub seen : or_stop ≡ true → (before later : List Entry) (next : Entry) → calls ≡ before ++ next ∷ later
      → IsFront (record_of before) text

-- this holds of the calls that were added, where the journal is told
abbrev pub HoldsOfAdded : Option (List Entry) → Option (List Entry) → (List Entry → Type 0) → Type 0
HoldsOfAdded None journal fact = Unit {0}
HoldsOfAdded (Some before) journal fact = (calls : List Entry) → Grows (Some before) journal calls → fact calls

-- no write of the record failed, and nothing was said
abbrev pub IsUnbroken : StreamView → StreamView → StreamView → StreamView → Type 0
IsUnbroken old new errors said = (new.write_faults ≡ old.write_faults) × (said ≡ errors)

-- the record broke, and one line says why: a write failed, or none did and the passphrases of the calls that were added
-- have no room
abbrev pub Breaks : Option (List Entry) → Option (List Entry) → StreamView → StreamView → StreamView → StreamView
    → Type 0
Breaks journal later old new errors said =
    FailsToWrite old.write_faults new.write_faults errors said
    ⊎ (HoldsOfAdded journal later HaveNoRoom × (new.write_faults ≡ old.write_faults)
    × Says no_room_line errors said)
