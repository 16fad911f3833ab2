use Rattle.std.proofs.Common.{sym}
use Rattle.std.specs.BTreeMap.{is_at}
use Rattle.identity_table.specs.Indices.{death_cmp}
use Rattle.identity_table.proofs.records.Records.first_death.Goals as goal
use Rattle.identity_table.proofs.QueueLemmas.{empty_gives_none, first_is_next, none_is_next}

pub returns-in-Some : goal.returns-in-Some
returns-in-Some c =
    sym (first_is_next c.args.self.now c.requires c.in-Some.field-0-0.now.0 c.in-Some.field-0-0.now.1 c.in-Some.field-0-1.now
    c.in-Some.ensures.value c.in-Some.ensures.least)

pub returns-in-None : goal.returns-in-None
returns-in-None c =
    sym (none_is_next c.args.self.now c.requires
    (λ key. empty_gives_none (is_at (death_cmp key)) c.args.self.now.deaths.entries c.in-None.ensures.variant.1))
