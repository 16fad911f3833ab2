-- The bounds of messages (ours: docs/DECISIONS.md, "Limits of the agent").
use Rattle.std.specs.Prelude.{ℕ}

-- the longest body of a message to an agent, in bytes, and of its reply
abbrev pub longest_body : ℕ
longest_body = 262144

-- the longest body of a message from the agent to a child process, in bytes
abbrev pub longest_to_child : ℕ
longest_to_child = 1048576
