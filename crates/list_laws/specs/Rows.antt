-- Literal rows: what is listed behind short pasts, the newest action first (ours).
use Rattle.std.specs.Prelude.{ℕ, List, [], ◌∷◌, None, codes, false}
use Rattle.agent_model.specs.Actions.{Proved}
use Rattle.agent_model.specs.BindRows.{host}
use Rattle.agent_model.specs.Rows.{blob, key, moment_at}
use Rattle.agent_model.specs.Runs.{Stamped}
use Rattle.agent_model.specs.Verdicts.{Replies, Success}
use Rattle.agent_laws.specs.PastRows.{at, got}
use Rattle.list_laws.specs.Lists.{listed_to}

-- the request succeeded at this second
abbrev pub did_at : ℕ → List ℕ → Stamped
did_at second frame = at second (got (Replies Success) frame)

-- SSH_AGENTC_ADD_IDENTITY of the key of this tag, with the comment "two"
abbrev pub add_again : ℕ → List ℕ
add_again tag = 0 ∷ 0 ∷ 0 ∷ 108 ∷ 17 ∷ key tag (codes "two")

-- the connection of this port was proved to be bound to a host whose key has this tag, which forwards
-- no agent
abbrev pub proved_to : ℕ → ℕ → Stamped
proved_to port tag = at 0 (Proved (record {
  port = port;
  binding = record { host_key = host tag; session = 7 ∷ []; forwarding = false };
}))

-- what the client of a port is listed at a second, where additions without a lifetime never die
abbrev pub listed_at : ℕ → ℕ → List Stamped → List (List ℕ × List ℕ)
listed_at second port past = listed_to None port (moment_at second) past

-- the entry of the key of this tag, with the comment "one"
abbrev pub one : ℕ → List ℕ × List ℕ
one tag = (blob tag, codes "one")

-- the same with the comment "two"
abbrev pub two : ℕ → List ℕ × List ℕ
two tag = (blob tag, codes "two")
