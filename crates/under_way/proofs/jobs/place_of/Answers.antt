use Rattle.under_way.proofs.PlaceLemmas.{is_place}
use Rattle.under_way.proofs.jobs.place_of.Goals as goal

pub returns : goal.returns
returns c = is_place c.args.number c.args.jobs.now c.first_of.result c.first_of.ensures
