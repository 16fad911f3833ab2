use Rattle.std.proofs.Common.{refl}
use Rattle.identity_table.proofs.records.Records.new.Goals as goal
use Rattle.identity_table.proofs.ChangeLemmas.{IsIndexed-none}

pub returns-clause-indexed : goal.returns-clause-indexed
returns-clause-indexed c =
    IsIndexed-none _ c.new.ensures.empty c.new-2.ensures.empty c.new-3.ensures.empty c.new-4.ensures.empty refl refl
