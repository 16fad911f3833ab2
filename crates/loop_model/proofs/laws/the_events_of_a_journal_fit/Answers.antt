use Rattle.loop_model.proofs.FittingLemmas.{journal-fits, journal-range, journal-read}
use Rattle.loop_model.proofs.laws.the_events_of_a_journal_fit.Goals as goal

pub returns-clause-fit : goal.returns-clause-fit
returns-clause-fit c = journal-fits

pub returns-clause-read : goal.returns-clause-read
returns-clause-read c = journal-read

pub returns-clause-range : goal.returns-clause-range
returns-clause-range c = journal-range
