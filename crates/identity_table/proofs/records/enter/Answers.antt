use Rattle.std.proofs.Common.{Some}
use Rattle.std.specs.Ordering.{nat_cmp}
use Rattle.std.proofs.lemmas.Map.Lookups.{exact_pairs, exact_unsigned}
use Rattle.identity_table.proofs.UpdateLemmas.{get-changed}
use Rattle.identity_table.proofs.records.enter.Goals as goal

pub returns-in-Ok-clause-deaths : goal.returns-in-Ok-clause-deaths
returns-in-Ok-clause-deaths c =
    rw c.in-Some.is (get-changed (exact_pairs nat_cmp nat_cmp exact_unsigned exact_unsigned) c.args.deaths.now c.insert-2.new.self
    (c.in-Some.death, c.args.number) (Some c.args.place) c.in-Ok.ensures.updates)
