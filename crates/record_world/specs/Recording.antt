-- The record of a journal, entry by entry (ours): docs/PROTOCOL.md, "Records". The file is read from its end.
use Rattle.std.specs.Prelude.{ℕ, zero, suc, ◌==◌, Bool, true, false, ◌||◌, not, List, [], ◌∷◌, ◌++◌, length, take, drop, map, codes, Option, Some, None, Ok, Err, if◌then◌else◌}
use Rattle.std.specs.List.{flat_map}
use Rattle.wire_text.specs.Bounds.{longest_body}
use Rattle.wire_text.specs.Frames.{Front, front, split, Bad}
use Rattle.lists.specs.Keyed.{change_by, find_by, remove_by}
use Rattle.world_ports.specs.declared.Door.{Door}
use Rattle.world_ports.specs.declared.Door.TheVariants.{Clients, Children}
use Rattle.world_ports.specs.declared.answers.Accepted.TheVariants as accepted
use Rattle.world_ports.specs.declared.answers.Got.TheVariants as got
use Rattle.world_ports.specs.declared.answers.WorldFault.TheVariants.{Failed, Memory}
use Rattle.world_ports.specs.declared.answers.Wrote.TheVariants as wrote
use Rattle.world_ports.specs.declared.entry.Entry.{Entry}
use Rattle.world_ports.specs.declared.entry.Entry.TheVariants as entry
use Rattle.schedule_text.specs.declared.step.Step.{Step}
use Rattle.schedule_text.specs.declared.step.Step.TheVariants as steps
use Rattle.schedule_text.specs.Steps.{step_line}
use Rattle.redact_core.specs.Redaction.{Redacted, is_over, redacted_all}

-- ---- what is kept between two entries

-- a port that joined and wasn't closed: its number and door, the bytes that came and aren't recorded yet, whether a line
-- holds it, and whether its bytes came to a bad length
pub record Port : Type 0 where
  pub number : ℕ
  pub door : Door
  pub unrecorded : List ℕ
  pub is_held : Bool
  pub is_bad : Bool

-- the number by which a port is found
abbrev pub number_of : Port → ℕ
number_of port = port.number

-- whether a bind came, the ports, the passphrases that came in their order, and the lines of the last entry, which wait
-- for a moment
pub record Recording : Type 0 where
  pub is_bound : Bool
  pub ports : List Port
  pub passphrases : List (List ℕ)
  pub due : List ℕ

-- nothing was recorded yet
abbrev pub first_recording : Recording
first_recording = record { is_bound = false; ports = []; passphrases = []; due = [] }

-- the passphrases that came take more room than they may
abbrev pub is_full : Recording → Bool
is_full recording = is_over recording.passphrases

-- the port of this number
abbrev pub find_port : ℕ → List Port → Option Port
find_port number ports = find_by number_of number ports

-- what an entry leaves: what is kept, and the steps whose lines wait for a moment
pub record Left : Type 0 where
  pub kept : Recording
  pub steps : List Step

-- the text of these steps, a line each
abbrev pub lines : List Step → List ℕ
lines steps = flat_map step_line steps

-- nothing but these steps
abbrev pub only : List Step → Recording → Left
only steps recording = record { kept = recording; steps = steps }

-- ---- bytes that came

-- the most bytes of a line that tells of bytes
abbrev pub longest_piece : ℕ
longest_piece = 16384

-- the bytes in pieces of that length and a last one, in at most so many
abbrev pub pieces_up_to : ℕ → List ℕ → List (List ℕ)
pieces_up_to zero bytes = []
pieces_up_to (suc count) [] = []
pieces_up_to (suc count) (byte ∷ bytes) =
    take longest_piece (byte ∷ bytes) ∷ pieces_up_to count (drop longest_piece (byte ∷ bytes))

-- the bytes in pieces of at most one line's length
abbrev pub pieces : List ℕ → List (List ℕ)
pieces bytes = pieces_up_to (length bytes) bytes

-- what leaves a port at one event, in lines
abbrev pub hear_steps : ℕ → List ℕ → List Step
hear_steps port bytes = map (λ piece. steps.Hear port piece) (pieces bytes)

-- a port is held before its first bytes are told
abbrev pub hold_steps : Bool → ℕ → List ℕ → List Step
hold_steps is_held port [] = []
hold_steps true port (byte ∷ bytes) = hear_steps port (byte ∷ bytes)
hold_steps false port (byte ∷ bytes) = steps.Hold port ∷ hear_steps port (byte ∷ bytes)

-- the line that holds a port, unless it is held
abbrev pub hold_text : Bool → ℕ → List ℕ
hold_text true port = []
hold_text false port = step_line (steps.Hold port)

-- what leaves a port at one event: the port as that leaves it, the passphrases, and the bytes
pub record Taken : Type 0 where
  pub port : Port
  pub passphrases : List (List ℕ)
  pub bytes : List ℕ

-- whole frames leave a client's bytes, and of a bad rest its first four bytes
abbrev pub rest_taken : Front → Port → Redacted → List ℕ → Taken
rest_taken (Bad announced) port frames rest = record {
  port = record port { unrecorded = []; is_bad = true };
  passphrases = frames.passphrases;
  bytes = frames.body ++ take 4 rest;
}
rest_taken unfinished port frames rest =
    record { port = record port { unrecorded = rest }; passphrases = frames.passphrases; bytes = frames.body }

-- what leaves a client's port: what comes behind a bad length isn't recorded
abbrev pub client_taken : Bool → Port → List ℕ → List (List ℕ) → Taken
client_taken true port piece passphrases = record { port = port; passphrases = passphrases; bytes = [] }
client_taken false port piece passphrases =
    let cut = split longest_body (port.unrecorded ++ piece) in
    rest_taken (front longest_body cut.rest) port (redacted_all cut.bodies passphrases) cut.rest

-- a child's bytes are recorded as they come
abbrev pub taken_by : Door → Port → List ℕ → List (List ℕ) → Taken
taken_by Clients port piece passphrases = client_taken port.is_bad port piece passphrases
taken_by Children port piece passphrases = record { port = port; passphrases = passphrases; bytes = piece }

-- what a piece that came to a port makes leave it
abbrev pub taken : Port → List ℕ → List (List ℕ) → Taken
taken port piece passphrases = taken_by port.door port piece passphrases

-- bytes that leave a port hold it
abbrev pub held : List ℕ → Port → Port
held bytes port = record port { is_held = port.is_held || not (length bytes == 0) }

-- the steps that tell what left a port
abbrev pub hear_lines : Taken → List Step
hear_lines taken = hold_steps taken.port.is_held taken.port.number taken.bytes

-- the recording after bytes left a port, with the steps that tell them
abbrev pub told : Taken → Recording → Left
told taken recording = record {
  kept = record recording {
    ports = change_by number_of taken.port.number (λ _. held taken.bytes taken.port) recording.ports;
    passphrases = taken.passphrases;
  };
  steps = hear_lines taken;
}

-- the recording after a piece came to this port; a port that isn't kept tells nothing
abbrev pub heard : Option Port → List ℕ → Recording → Left
heard None piece recording = only [] recording
heard (Some port) piece recording = told (taken port piece recording.passphrases) recording

-- ---- what an entry leaves

-- a port of this number at this door, of which nothing came
abbrev pub new_port : ℕ → Door → Port
new_port number door = record { number = number; door = door; unrecorded = []; is_held = false; is_bad = false }

-- what a call on the world leaves, by its entry of the journal: a read or a write that failed is the port's end, and what
-- is kept of a port goes when it is closed
abbrev pub left : Entry → Recording → Left
left (entry.Bind door path answer) recording = only [] (record recording { is_bound = true })
left (entry.Accept door (Ok (accepted.Port number))) recording =
    only (steps.Join door ∷ []) (record recording { ports = recording.ports ++ new_port number door ∷ [] })
left (entry.Read port room bytes (Ok (got.Bytes count))) recording =
    heard (find_port port recording.ports) bytes recording
left (entry.Read port room bytes (Ok got.End)) recording = only (steps.End port ∷ []) recording
left (entry.Read port room bytes (Err Failed)) recording = only (steps.End port ∷ []) recording
left (entry.Write port offered (Ok (wrote.Took count))) recording = only (steps.Take port count ∷ []) recording
left (entry.Write port offered (Err Failed)) recording = only (steps.End port ∷ []) recording
left (entry.Close port answer) recording =
    only [] (record recording { ports = remove_by number_of port recording.ports })
left (entry.Start job (Ok ticket)) recording = only (steps.Started job.number ticket ∷ []) recording
left (entry.Start job (Err Failed)) recording = only (steps.Failed job.number ∷ []) recording
-- what the outside didn't do, and what is said of time and readiness, leaves no line
left (entry.Accept door (Ok accepted.NotNow)) recording = only [] recording
left (entry.Accept door (Err fault)) recording = only [] recording
left (entry.Read port room bytes (Ok got.NotNow)) recording = only [] recording
left (entry.Read port room bytes (Err Memory)) recording = only [] recording
left (entry.Write port offered (Ok wrote.NotNow)) recording = only [] recording
left (entry.Write port offered (Err Memory)) recording = only [] recording
left (entry.Start job (Err Memory)) recording = only [] recording
left (entry.Poll wait items answer) recording = only [] recording
left (entry.Now answer) recording = only [] recording

-- what is kept then
abbrev pub with_due : Left → Recording
with_due left = record left.kept { due = lines left.steps }

-- what is kept after an entry, its lines waiting for a moment
abbrev pub after : Entry → Recording → Recording
after one recording = with_due (left one recording)

-- ---- what is written

-- the lines of an entry: the first bind writes that of the format, and a moment its own, and behind it those that waited
-- for it
abbrev pub text_of : Entry → Recording → List ℕ
text_of (entry.Bind door path answer) recording = if recording.is_bound then [] else codes "schedule 2\n"
text_of (entry.Now (Ok moment)) recording = step_line (steps.At moment) ++ recording.due
text_of other recording = []

-- the lines of these entries, and what they leave
abbrev pub record_from : Recording → List Entry → List ℕ
record_from recording [] = []
record_from recording (one ∷ later) = text_of one recording ++ record_from (after one recording) later

-- what is kept after these entries
abbrev pub recording_after : Recording → List Entry → Recording
recording_after recording [] = recording
recording_after recording (one ∷ later) = recording_after (after one recording) later

-- the record of a journal
abbrev pub record_of : List Entry → List ℕ
record_of entries = record_from first_recording entries
