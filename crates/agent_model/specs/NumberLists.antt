-- Lists of numbers (ours).
use Rattle.std.specs.Prelude.{ℕ, List, [], ◌∷◌, if◌then◌else◌}
use Rattle.lists.specs.Rising.{inserted, is_among}

-- rising numbers, with those of another list in their places
abbrev pub put_all : List ℕ → List ℕ → List ℕ
put_all rising [] = rising
put_all rising (number ∷ others) = put_all (inserted number rising) others

-- the numbers that don't stand in the second list
abbrev pub without : List ℕ → List ℕ → List ℕ
without [] kept = []
without (number ∷ others) kept =
    if is_among number kept then without others kept else number ∷ without others kept
