-- Room for reads (ours).
use Rattle.std.specs.Prelude.{◌≡◌, ℕ, List, length, replicate}

-- it is zero all over
abbrev pub IsWiped : List ℕ → Type 0
IsWiped room = room ≡ replicate (length room) 0
