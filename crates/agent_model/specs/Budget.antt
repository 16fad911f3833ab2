-- How many takings can still follow in a state: what makes settling end (ours).
use Rattle.std.specs.Prelude.{ℕ, ◌+◌, List, [], ◌∷◌, length, if◌then◌else◌}
use Rattle.agent_model.specs.State.{Port, State, UnderWay, is_some_bytes, owed_by_port, is_client}

-- the bytes of a client's port that requests may yet be taken from, a child process's being none, and
-- one more where it is owed bytes
abbrev pub port_budget : UnderWay → Port → ℕ
port_budget under_way port = (if is_client port.door then length port.heard else 0)
    + (if is_some_bytes (owed_by_port port under_way) then 1 else 0)

-- the sum of the budgets of these ports
abbrev pub ports_budget : UnderWay → List Port → ℕ
ports_budget under_way [] = 0
ports_budget under_way (port ∷ ports) = port_budget under_way port + ports_budget under_way ports

-- the sum of the budgets of a state's open ports, and one for each ask and each confirmation, whose
-- client is told as it ends
abbrev pub budget : State → ℕ
budget state = ports_budget state.under_way state.ports
    + (length state.under_way.link.asks + length state.under_way.confirmations)
