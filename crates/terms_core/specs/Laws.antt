-- What the law of additions speaks of (ours).
use Rattle.std.specs.Prelude.{◌≤◌, List, filter, length}
use Rattle.constraint_rec.specs.Constraints.{Item, is_alike}

-- no two of the constraints are of one kind
abbrev pub AreOnce : List Item → Type 0
AreOnce items = (item : Item) → length (filter (is_alike item) items) ≤ 1
