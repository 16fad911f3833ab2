use Rattle.std.proofs.Common.{refl}
use Rattle.identity_table.proofs.records.Records.clear.Goals as goal
use Rattle.identity_table.proofs.ChangeLemmas.{IsIndexed-none}

pub returns-clause-indexed : goal.returns-clause-indexed
returns-clause-indexed c =
    IsIndexed-none _ c.clear.ensures.empty c.clear-2.ensures.empty c.clear-3.ensures.empty c.clear-4.ensures.empty refl refl
