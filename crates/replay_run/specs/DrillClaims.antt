-- How a drill may end, and which agent it leaves (ours). What it sums up, `summary`, is in specs/Drill.antt.
use Rattle.std.specs.Prelude.{ℕ, Option, None, Some}
use Rattle.world_ports.specs.Causes.{Rose}
use Rattle.world_ports.specs.Streams.{StreamView, WritesPart}
use Rattle.agent_model.specs.State.{State}
use Rattle.replay_run.specs.declared.run_end.RunEnd.{RunEnd}
use Rattle.replay_run.specs.declared.run_end.RunEnd.TheVariants.{Done, Refused, Memory, ReadFault, WriteFault}
use Rattle.replay_run.specs.Drill.{summary}
use Rattle.replay_run.specs.Feeding.{Wrote}

-- a front of the summary is written, and a write failed
pub record DrillEndsAtWriteFault (rounds seed : ℕ) (before after : StreamView) : Type 0 where
  pub front : WritesPart (summary rounds seed) before after
  pub cause : Rose before.write_faults after.write_faults

-- what the end of a drill says of the sink
unfoldable pub DrillEnds : ℕ → ℕ → RunEnd → StreamView → StreamView → Type 0
-- all of the summary is written, and no write failed
DrillEnds rounds seed Done before after = Wrote before after (summary rounds seed)
-- the lines of a drill are none that a run refuses
DrillEnds rounds seed (Refused line fault) before after = ⊥
-- want of memory says nothing of the drill
DrillEnds rounds seed Memory before after = WritesPart (summary rounds seed) before after
-- nothing is read
DrillEnds rounds seed ReadFault before after = ⊥
DrillEnds rounds seed WriteFault before after = DrillEndsAtWriteFault rounds seed before after

-- the agent that is handed back at the end of a drill that reached this one: none where memory ran out or a write failed
abbrev pub left_at : RunEnd → State → Option State
left_at Done agent = Some agent
left_at (Refused line fault) agent = None
left_at Memory agent = None
left_at ReadFault agent = None
left_at WriteFault agent = None
