use Rattle.std.proofs.Common.{None}
use Rattle.std.specs.Ordering.{nat_cmp}
use Rattle.std.proofs.lemmas.Map.Lookups.{exact_pairs, exact_unsigned}
use Rattle.identity_table.proofs.UpdateLemmas.{get-changed}
use Rattle.identity_table.proofs.records.leave.Goals as goal

pub returns-in-Some-clause-deaths : goal.returns-in-Some-clause-deaths
returns-in-Some-clause-deaths c =
    rw c.in-Some.is (get-changed (exact_pairs nat_cmp nat_cmp exact_unsigned exact_unsigned) c.args.deaths.now c.remove-in-Some.new.self
    (c.in-Some.death, c.args.number) None c.remove-in-Some.ensures.updates)
