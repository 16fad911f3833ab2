-- Output lines of a run (ours): docs/PROTOCOL.md, "Output".
use Rattle.std.specs.Prelude.{ℕ, ◌++◌, List, [], codes, decimal}
use Rattle.hex.specs.Hex.{encode_lower}
use Rattle.world_ports.specs.declared.Job.{Job}
use Rattle.world_ports.specs.declared.JobKind.{JobKind}
use Rattle.world_ports.specs.declared.JobKind.TheVariants.{Helper, Confirm}
use Rattle.schedule_text.specs.declared.deed.Deed.{Deed}
use Rattle.schedule_text.specs.declared.deed.Deed.TheVariants.{To, Close, Start, Refused, End}
use Rattle.schedule_text.specs.declared.fault.LineFault.{LineFault}
use Rattle.schedule_text.specs.declared.fault.LineFault.TheVariants.{Word, Number, Hex, UnknownPort, Order, TooLong, Memory}

-- the port takes these bytes, in lower case
unfoldable pub to_line : ℕ → List ℕ → List ℕ
to_line port bytes = codes "to " ++ (decimal port ++ (codes " " ++ (encode_lower bytes ++ codes "\n")))

-- the port is closed
unfoldable pub close_line : ℕ → List ℕ
close_line port = codes "close " ++ (decimal port ++ codes "\n")

-- the word for what a child process is for
abbrev pub kind_word : JobKind → List ℕ
kind_word Helper = codes "helper"
kind_word Confirm = codes "confirm"

-- a child process is to be started
unfoldable pub start_line : Job → List ℕ
start_line job = codes "start " ++ (decimal job.number ++ (codes " " ++ (kind_word job.kind ++ codes "\n")))

-- the word for a fault; want of memory has none, and is never printed
abbrev pub fault_word : LineFault → List ℕ
fault_word Word = codes "word"
fault_word Number = codes "number"
fault_word Hex = codes "hex"
fault_word UnknownPort = codes "port"
fault_word Order = codes "order"
fault_word TooLong = codes "long"
fault_word Memory = []

-- the line of a schedule that is refused, counted from 1, and its fault
unfoldable pub refused_line : ℕ → LineFault → List ℕ
refused_line line fault = codes "refused " ++ (decimal line ++ (codes " " ++ (fault_word fault ++ codes "\n")))

-- the schedule was run to its end
unfoldable pub end_line : List ℕ
end_line = codes "end\n"

-- a line of the output
abbrev pub output_line : Deed → List ℕ
output_line (To port bytes) = to_line port bytes.now
output_line (Close port) = close_line port
output_line (Start job) = start_line job
output_line (Refused line fault) = refused_line line fault
output_line End = end_line

-- the line has a text: it refuses nothing for want of memory
abbrev pub IsPrintable : Deed → Type 0
IsPrintable (Refused line Memory) = ⊥
IsPrintable _ = Unit {0}
