use Rattle.std.proofs.Common.{sym, arith}
use Rattle.identity_table.proofs.records.Records.others_len.Goals as goal
use Rattle.identity_table.proofs.IndexLemmas.{entry_of_found}

pub entry_len_of-requires : goal.entry_len_of-requires
entry_len_of-requires c =
    (entry_of_found c.args.self.now c.requires c.args.blob.now c.in-Some.identity.now (sym c.in-Some.ensures)).0

pub overflow_sub-result : goal.overflow_sub-result
overflow_sub-result c =
    let entry = entry_of_found c.args.self.now c.requires c.args.blob.now c.in-Some.identity.now (sym c.in-Some.ensures) in
    omega (arith, entry.1, c.entry_len_of.ensures)

pub returns-in-Some : goal.returns-in-Some
returns-in-Some c =
    let entry = entry_of_found c.args.self.now c.requires c.args.blob.now c.in-Some.identity.now (sym c.in-Some.ensures) in
    omega (arith, entry.1, entry.2, c.entry_len_of.ensures, c.requires.listed)
