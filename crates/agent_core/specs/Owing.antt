-- Which child processes are owed bytes, and which ports are clients' (ours).
use Rattle.std.specs.Prelude.{ℕ, List, [], ◌∷◌, Option, Some, None, Bool, false, not, nat_lt, ◌&&◌, if◌then◌else◌}
use Rattle.agent_model.specs.State.{Port, State, UnderWay, is_client, is_some_bytes, owed_by_port}

-- the first of these ports above this number that is a child process's and owed bytes
abbrev pub next_child_owed_in : ℕ → List Port → UnderWay → Option ℕ
next_child_owed_in after [] under_way = None
next_child_owed_in after (port ∷ ports) under_way =
    if nat_lt after port.number && (not (is_client port.door) && is_some_bytes (owed_by_port port under_way))
    then Some port.number else next_child_owed_in after ports under_way

-- the least open port above this number that is a child process's and owed bytes
abbrev pub next_child_owed : ℕ → State → Option ℕ
next_child_owed after state = next_child_owed_in after state.ports state.under_way

-- the port is open and a client's
abbrev pub is_client_at : Option Port → Bool
is_client_at None = false
is_client_at (Some port) = is_client port.door
