-- What is kept of a drill while it is run (ours): the agent and the counts in place of the events.
use Rattle.std.specs.Prelude.{◌≡◌, ℕ, ◌+◌, Bool, true, false, List, Option, count_by}
use Rattle.wire_text.specs.Bounds.{longest_to_child}
use Rattle.wire_text.specs.Frames.{split}
use Rattle.agent_core.specs.Owing.{is_client_at}
use Rattle.agent_model.specs.Events.{Happening, Timed, Took}
use Rattle.agent_model.specs.Runs.{run}
use Rattle.agent_model.specs.State.{State}
use Rattle.replay_run.specs.Drill.{Drilled, Tally, agent_of, counts_of, has_number, is_child_at, last_ask, replies, taken}

-- ---- counts

-- nothing was taken
abbrev pub no_counts : Tally
no_counts = record { successes = 0; failures = 0; lists = 0; signatures = 0 }

-- these bodies too
abbrev pub counts_with : List (List ℕ) → Tally → Tally
counts_with bodies counts = record {
  successes = counts.successes + count_by (has_number 6) bodies;
  failures = counts.failures + count_by (has_number 5) bodies;
  lists = counts.lists + count_by (has_number 12) bodies;
  signatures = counts.signatures + count_by (has_number 14) bodies;
}

-- ---- what is kept

-- the agent, what clients took, the ask that the helper hasn't answered, and the last number drawn
pub record Kept : Type 0 where
  pub agent : State
  pub counts : Tally
  pub ask : Option ℕ
  pub number : ℕ

-- what is kept of a drill so far
abbrev pub kept : Drilled → Kept
kept drill = record {
  agent = agent_of drill;
  counts = counts_of (replies drill);
  ask = drill.ask;
  number = drill.number;
}

-- where it was kept of a drill, it is kept of what the drill was changed to
abbrev pub Keeps : (Drilled → Drilled) → Kept → Kept → Type 0
Keeps change old new = (drill : Drilled) → old ≡ kept drill → new ≡ kept (change drill)

-- ---- what is noted

-- what a port takes is noted: replies by a client, asks by a child process
unfoldable pub noted : Bool → List ℕ → Kept → Kept
noted true bytes before = record before { counts = counts_with (split longest_to_child bytes).bodies before.counts }
noted false bytes before = record before { ask = last_ask (split longest_to_child bytes).bodies before.ask }

-- these events come too
abbrev pub kept_after : List Timed → Kept → Kept
kept_after events before = record before {
  agent = run before.agent events;
  counts = counts_with (taken is_client_at before.agent events) before.counts;
  ask = last_ask (taken is_child_at before.agent events) before.ask;
}

-- no port takes anything
abbrev pub TakesNothing : Happening → Type 0
TakesNothing (Took port count) = ⊥
TakesNothing other = Unit {0}
