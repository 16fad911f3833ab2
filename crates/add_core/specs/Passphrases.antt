-- The passphrase of a lock (ssh-add(1), options -x and -X). That it comes from the input, and has 1 to
-- 1024 bytes, is ours.
use Rattle.std.specs.Prelude.{ℕ, ◌==◌, nat_lt, List, [], ◌∷◌, length, Result, Ok, Err, if◌then◌else◌}
use Rattle.add_core.specs.declared.fault.AddFault.{AddFault}
use Rattle.add_core.specs.declared.fault.AddFault.TheVariants.{EmptyPassphrase, LongPassphrase}

-- the bytes in front of the first LF, or all
abbrev pub first_line : List ℕ → List ℕ
first_line [] = []
first_line (byte ∷ bytes) = if byte == 10 then [] else byte ∷ first_line bytes

-- a line that may be a passphrase
abbrev pub passphrase_in : List ℕ → Result (List ℕ) AddFault
passphrase_in line =
    if length line == 0 then Err EmptyPassphrase
    else if nat_lt 1024 (length line) then Err LongPassphrase
    else Ok line

-- the passphrase of an input
abbrev pub passphrase_of : List ℕ → Result (List ℕ) AddFault
passphrase_of input = passphrase_in (first_line input)
