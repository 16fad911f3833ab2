-- Literal texts (ours).
use Rattle.std.specs.Prelude.{ℕ, List, codes}

-- a line of a record, and a line that isn't whole
abbrev pub cut : List ℕ
cut = codes "join client\nhear 1 00"

-- the line that is
abbrev pub whole : List ℕ
whole = codes "join client\n"
