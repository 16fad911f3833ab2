use Rattle.p521_multiples.proofs.TableLemmas.{multiple-encoded, multiple-stands, multiple-x}
use Rattle.p521_multiples.proofs.table.BaseTable.multiple.Goals as goal

pub returns-clause-stands : goal.returns-clause-stands
returns-clause-stands c = multiple-stands c.args.s.now _ c.requires c.sum_of_entries.ensures

pub returns-clause-x : goal.returns-clause-x
returns-clause-x c = multiple-x c.args.s.now _ c.requires c.sum_of_entries.ensures

pub returns-clause-encoded : goal.returns-clause-encoded
returns-clause-encoded c = multiple-encoded c.args.s.now _ c.requires c.sum_of_entries.ensures
