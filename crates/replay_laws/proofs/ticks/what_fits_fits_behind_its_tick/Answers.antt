use Rattle.replay_laws.proofs.FitLemmas.{fits_behind}
use Rattle.replay_laws.proofs.ticks.what_fits_fits_behind_its_tick.Goals as goal

pub returns : goal.returns
returns c = record { fits = fits_behind }
