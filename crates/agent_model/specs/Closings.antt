-- Which ports an event closed, by what was open before and after (ours).
use Rattle.std.specs.Prelude.{ℕ, List, [], ◌∷◌, ◌++◌, nat_lt, if◌then◌else◌}
use Rattle.agent_model.specs.NumberLists.{without}
use Rattle.agent_model.specs.State.{State, numbers}

-- the number of the port that joined, if one did, between these last numbers: an event lets at most
-- one join
abbrev pub joined_between : ℕ → ℕ → List ℕ
joined_between old_last new_last = if nat_lt old_last new_last then new_last ∷ [] else []

-- the ports that were open or joined and aren't open after, rising
abbrev pub closed_between : State → State → List ℕ
closed_between old new =
    without (numbers old.ports ++ joined_between old.last_port new.last_port) (numbers new.ports)
