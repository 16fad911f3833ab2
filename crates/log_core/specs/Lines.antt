-- The whole lines of a text (ours): what stands behind the last LF may be a line that is still being written.
use Rattle.std.specs.Prelude.{ℕ, ◌==◌, List, [], ◌∷◌, if◌then◌else◌}

-- a byte, and what is whole of the bytes behind it: where nothing is, the byte has to end a line itself
abbrev pub lines_with : ℕ → List ℕ → List ℕ
lines_with byte [] = if byte == 10 then byte ∷ [] else []
lines_with byte (next ∷ more) = byte ∷ next ∷ more

-- a text up to its last LF
abbrev pub whole_lines : List ℕ → List ℕ
whole_lines [] = []
whole_lines (byte ∷ bytes) = lines_with byte (whole_lines bytes)
