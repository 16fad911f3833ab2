-- Text that others chose, as a line of a log shows it (ours): no byte of it moves a terminal's cursor, ends a line, or
-- ends the quotation.
use Rattle.std.specs.Prelude.{ℕ, Bool, List, [], ◌∷◌, ◌++◌, take, map, nat_lt, ◌==◌, ◌||◌, if◌then◌else◌}

-- not a printable character of ASCII, or the quotation mark
abbrev pub is_hidden : ℕ → Bool
is_hidden byte = nat_lt byte 32 || (nat_lt 126 byte || byte == 34)

-- a byte as it is shown: `?` where it is hidden
abbrev pub shown_byte : ℕ → ℕ
shown_byte byte = if is_hidden byte then 63 else byte

-- the first 256 bytes of a text, in quotation marks
unfoldable pub quoted : List ℕ → List ℕ
quoted text = 34 ∷ (map shown_byte (take 256 text) ++ 34 ∷ [])
