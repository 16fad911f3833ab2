-- Lines of a schedule as they are written (ours): docs/PROTOCOL.md, "Schedules".
use Rattle.std.specs.Prelude.{◌≡◌, ℕ, ◌++◌, ◌<◌, ◌≤◌, ◌^◌, List, [], codes, decimal, length, Ok}
use Rattle.hex.specs.Hex.{encode_lower, IsBytes}
use Rattle.world_ports.specs.declared.Door.{Door}
use Rattle.world_ports.specs.declared.Door.TheVariants.{Clients, Children}
use Rattle.schedule_text.specs.declared.step.Step.{Step}
use Rattle.schedule_text.specs.declared.step.Step.TheVariants.{Skip, Format2, At, Join, Hear, End, Hold, Free, Take, Started, Failed}
use Rattle.schedule_text.specs.Lines.{step_of}

-- a word, and a number behind it
abbrev pub one_text : List ℕ → ℕ → List ℕ
one_text word number = word ++ (codes " " ++ decimal number)

-- a word, and two numbers behind it
abbrev pub two_text : List ℕ → ℕ → ℕ → List ℕ
two_text word first second = one_text word first ++ (codes " " ++ decimal second)

-- a word, and behind it a number and bytes in lower case
abbrev pub bytes_text : List ℕ → ℕ → List ℕ → List ℕ
bytes_text word number bytes = one_text word number ++ (codes " " ++ encode_lower bytes)

-- the word for a listener
abbrev pub door_word : Door → List ℕ
door_word Clients = codes "client"
door_word Children = codes "child"

-- the line of a step, without its LF
abbrev pub step_text : Step → List ℕ
step_text Skip = []
step_text Format2 = codes "schedule 2"
step_text (At moment) = two_text (codes "at") moment.mono moment.wall
step_text (Join door) = codes "join " ++ door_word door
step_text (Hear port bytes) = bytes_text (codes "hear") port bytes
step_text (End port) = one_text (codes "end") port
step_text (Hold port) = one_text (codes "hold") port
step_text (Free port) = one_text (codes "free") port
step_text (Take port count) = two_text (codes "take") port count
step_text (Started job ticket) = bytes_text (codes "started") job ticket
step_text (Failed job) = one_text (codes "failed") job

-- the line of a step
unfoldable pub step_line : Step → List ℕ
step_line step = step_text step ++ codes "\n"

-- the step hears or takes one byte at least, where it hears or takes
abbrev pub SaysSome : Step → Type 0
SaysSome (Hear port bytes) = 0 < length bytes
SaysSome (Take port count) = 0 < count
SaysSome _ = Unit {0}

-- the step has a line, and that isn't too long
pub record HasLine (step : Step) : Type 0 where
  pub some : SaysSome step
  pub short : length (step_text step) ≤ 65536

-- numbers are below 2 ^ 64, bytes below 256, and a one-time token has 16 of them
abbrev pub IsInRange : Step → Type 0
IsInRange Skip = Unit {0}
IsInRange Format2 = Unit {0}
IsInRange (At moment) = (moment.mono < 2 ^ 64) × (moment.wall < 2 ^ 64)
IsInRange (Join door) = Unit {0}
IsInRange (Hear port bytes) = (port < 2 ^ 64) × IsBytes bytes
IsInRange (End port) = port < 2 ^ 64
IsInRange (Hold port) = port < 2 ^ 64
IsInRange (Free port) = port < 2 ^ 64
IsInRange (Take port count) = (port < 2 ^ 64) × (count < 2 ^ 64)
IsInRange (Started job ticket) = (job < 2 ^ 64) × IsBytes ticket × (length ticket ≡ 16)
IsInRange (Failed job) = job < 2 ^ 64

-- the line of each such step is read as that step
abbrev pub IsReadBack : Type 0
IsReadBack = (step : Step) → IsInRange step → HasLine step → step_of (step_text step) ≡ Ok step
