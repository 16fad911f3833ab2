use Rattle.std.proofs.Common.{sym}
use Rattle.agent_top.specs.Words.{texts_of}
use Rattle.agent_top.proofs.DrillProgramLemmas.{drills_lawfully_by, no_drill_replays}
use Rattle.agent_top.proofs.top.agent_main.Goals as goal

pub returns-in-Some-clause-completes : goal.returns-in-Some-clause-completes
returns-in-Some-clause-completes g c =
    λ life is. absurd (no_drill_replays (texts_of c.args.words.now) _ life (sym c.in-Some.ensures.value) is)

pub returns-in-Some-clause-lawful : goal.returns-in-Some-clause-lawful
returns-in-Some-clause-lawful g c =
    λ life is. absurd (no_drill_replays (texts_of c.args.words.now) _ life (sym c.in-Some.ensures.value) is)

pub returns-in-Some-clause-drills_lawfully : goal.returns-in-Some-clause-drills_lawfully
returns-in-Some-clause-drills_lawfully g c = drills_lawfully_by (texts_of c.args.words.now)
