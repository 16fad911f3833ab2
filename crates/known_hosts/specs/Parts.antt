-- What stands between bytes of a kind: lines, fields, and the parts of a hashed host.
use Rattle.std.specs.Prelude.{◌≢◌, ℕ, ◌==◌, ◌||◌, Bool, true, false, List, [], ◌∷◌, All, Option, None, Some}
use Rattle.std.specs.List.{filter, slice_split}
use Rattle.known_hosts.specs.declared.parts.Mark.{Mark}
use Rattle.known_hosts.specs.declared.parts.Mark.TheVariants.{Line, Blank, Bar}
use denote.Ref.{Bor}

-- the byte is of this kind: LF, a space or a TAB, or `|`
abbrev pub ends : Mark → ℕ → Bool
ends Line byte = byte == 10
ends Blank byte = (byte == 32) || (byte == 9)
ends Bar byte = byte == 124

-- what stands between bytes of the kind, of which one stands between two parts
abbrev pub parts : Mark → List ℕ → List (List ℕ)
parts mark text = slice_split (ends mark) text

-- the parts of what is left of a text, where something is
abbrev pub parts_left : Mark → Option (Bor (List ℕ)) → List (List ℕ)
parts_left mark None = []
parts_left mark (Some rest) = parts mark rest.now

-- the part isn't empty
abbrev pub is_some_part : List ℕ → Bool
is_some_part [] = false
is_some_part (byte ∷ rest) = true

-- the parts that aren't empty
abbrev pub some_parts : List (List ℕ) → List (List ℕ)
some_parts parts = filter is_some_part parts

-- the fields of a line, with any number of blanks between them
abbrev pub fields_of : List ℕ → List (List ℕ)
fields_of line = some_parts (parts Blank line)

-- the text of one line, without its end
abbrev pub IsLine : List ℕ → Type 0
IsLine line = All (λ byte. byte ≢ 10) line
