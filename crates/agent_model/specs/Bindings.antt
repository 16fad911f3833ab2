-- The bindings of a connection by what was done: those whose signatures the helper found right
-- (ours).
use Rattle.std.specs.Prelude.{ℕ, List, [], ◌∷◌, Option, Some, None, is_some, ◌==◌, if◌then◌else◌}
use Rattle.dest_rule.specs.Chains.{bound, find_session}
use Rattle.dest_rule.specs.declared.binding.Binding.{Binding}
use Rattle.agent_model.specs.Actions.{Action, Proved}
use Rattle.agent_model.specs.State.{Port, find_port}

-- a chain with this binding at its end, unless it has one of that session
abbrev pub bound_once : Binding → List Binding → List Binding
bound_once binding chain =
    if is_some (find_session binding.session chain) then chain else bound binding chain

-- what an action makes of the bindings of the connection of this port
abbrev pub bound_by : ℕ → Action → List Binding → List Binding
bound_by number (Proved proving) chain =
    if proving.port == number then bound_once proving.binding chain else chain
bound_by number other chain = chain

-- what actions, the oldest first, make of the bindings of this connection
abbrev pub bound_after : ℕ → List Action → List Binding → List Binding
bound_after number [] chain = chain
bound_after number (action ∷ later) chain = bound_after number later (bound_by number action chain)

-- the bindings of a connection: none where it isn't open
abbrev pub chain_of : Option Port → List Binding
chain_of None = []
chain_of (Some port) = port.chain

-- the bindings of the connection of this port
abbrev pub chain_at : ℕ → List Port → List Binding
chain_at number ports = chain_of (find_port number ports)
