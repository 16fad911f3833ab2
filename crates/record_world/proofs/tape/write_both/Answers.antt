use Rattle.record_world.proofs.LeadsLemmas.{on_err, part_longer}
use Rattle.record_world.proofs.tape.write_both.Goals as goal

pub returns-in_err-write_all-clause-err : goal.returns-in_err-write_all-clause-err
returns-in_err-write_all-clause-err g c = on_err _ _ (part_longer _ _ _ _ c.in_err-write_all.ensures.err)
