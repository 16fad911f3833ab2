-- The limits of the agent (ours: docs/DECISIONS.md, "Limits of the agent").
use Rattle.std.specs.Prelude.{ℕ, ◌-◌, ◌^◌}

-- the most clients that may be open at once
abbrev pub most_clients : ℕ
most_clients = 128

-- the most child processes that are open and haven't named themselves
abbrev pub most_unnamed : ℕ
most_unnamed = 32

-- the most confirmations that the user is asked for at once
abbrev pub most_confirmations : ℕ
most_confirmations = 16

-- the last number that is given: of ports, additions, jobs and asks
abbrev pub last_number : ℕ
last_number = 2 ^ 64 - 1
