use Rattle.under_way.proofs.PlaceLemmas.{is_started_place}
use Rattle.under_way.proofs.jobs.place_of_started.Goals as goal

pub returns : goal.returns
returns c = is_started_place c.args.number c.args.started.now c.first_of_started.result c.first_of_started.ensures
