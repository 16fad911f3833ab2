use Rattle.agent_top.proofs.DrillProgramLemmas.{drill_completes_by, drills_by}
use Rattle.agent_top.proofs.drilling.drill_by.Goals as goal

pub returns-clause-drills : goal.returns-clause-drills
returns-clause-drills g c =
    rw c.status_of_end.ensures (drills_by c.args.words.rounds c.args.words.seed c.run_drill-end.result.0 _ _ c.run_drill-end.ensures.ends)

pub returns-clause-completes : goal.returns-clause-completes
returns-clause-completes g c =
    rw c.status_of_end.ensures (drill_completes_by c.args.words.rounds c.args.words.seed c.run_drill-end.result.0 _ _ c.run_drill-end.ensures.ends)
