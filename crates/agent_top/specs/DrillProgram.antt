-- What the end of the program says of the output of a drill (ours): `DrillsExactly`, a line a status, and `DrillsLawfully` of
-- its events. The summary and the events are those of replay_run, specs/Drill.antt.
use Rattle.world_ports.specs.Causes.{Rose}
use Rattle.world_ports.specs.Streams.{StreamView, WritesPart}
use Rattle.agent_top.specs.declared.status.Status.{Status}
use Rattle.agent_top.specs.declared.status.Status.TheVariants as status
use Rattle.agent_top.specs.LawfulRun.{IsLawfulRun}
use Rattle.agent_top.specs.Program.{IsFinished}
use Rattle.agent_top.specs.Words.{Drilling}
use Rattle.agent_model.specs.State.{no_settings}
use Rattle.replay_run.specs.Drill.{agent_of, drilled, summary}
use Rattle.replay_run.specs.DrillClaims.{DrillEndsAtWriteFault}
use Rattle.replay_run.specs.Feeding.{Wrote}

-- what a drill of these words writes, by the status with which the program ends
abbrev pub DrillsExactly : Drilling → Status → StreamView → StreamView → Type 0
-- the summary is written, and no write failed
DrillsExactly asked status.Done old new = Wrote old new (summary asked.rounds asked.seed)
-- a front of the summary is written
DrillsExactly asked status.Memory old new = WritesPart (summary asked.rounds asked.seed) old new
-- a write failed, and a front of the summary is written
DrillsExactly asked status.WriteFault old new = DrillEndsAtWriteFault asked.rounds asked.seed old new
-- the words were those of `drill`, no schedule and nothing else is read, no socket is bound, and nothing is waited for
DrillsExactly asked other old new = ⊥

-- where no write failed, the drill was run to its end, unless memory ran out
abbrev pub DrillCompletes : Status → StreamView → StreamView → Type 0
DrillCompletes result old new = ¬ (Rose old.write_faults new.write_faults) → IsFinished result

-- the drill that is summed up is the run of the events which its lines and their settlings bring
abbrev pub DrillsLawfully : Drilling → Type 0
DrillsLawfully asked =
    let drill = drilled asked.rounds asked.seed in IsLawfulRun no_settings drill.events (agent_of drill)
