use Rattle.curve25519_multiples.proofs.TableLemmas.{multiple-encoded, multiple-stands}
use Rattle.curve25519_multiples.proofs.table.BaseTable.multiple.Goals as goal

pub returns-clause-stands : goal.returns-clause-stands
returns-clause-stands c = multiple-stands c.args.s.now _ c.sum_of_entries.ensures.fits c.sum_of_entries.ensures.value

pub returns-clause-encoded : goal.returns-clause-encoded
returns-clause-encoded c = multiple-encoded c.args.s.now _ c.sum_of_entries.ensures.fits c.sum_of_entries.ensures.value
