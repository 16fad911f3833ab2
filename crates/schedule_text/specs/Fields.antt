-- The fields of a text: what stands between its spaces (ours): docs/PROTOCOL.md, "Schedules".
use Rattle.std.specs.Prelude.{ℕ, ◌==◌, Bool, List, [], Option, None, Some}
use Rattle.std.specs.List.{slice_split}
use denote.Ref.{Bor}

-- the byte is a space
abbrev pub is_space : ℕ → Bool
is_space byte = byte == 32

-- the fields of a text. Between two spaces in a row stands an empty field
abbrev pub fields_of : List ℕ → List (List ℕ)
fields_of text = slice_split is_space text

-- the fields of what is left of a text, where something is
abbrev pub fields_left : Option (Bor (List ℕ)) → List (List ℕ)
fields_left None = []
fields_left (Some rest) = fields_of rest.now
