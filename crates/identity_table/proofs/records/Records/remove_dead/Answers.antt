use Rattle.std.proofs.Common.{ap, ◌∙◌}
use Rattle.identity_table.specs.Identities.{alive_at, find_identity, has_blob, remove_identity}
use Rattle.identity_table.specs.Indices.{held, held_at}
use Rattle.identity_table.proofs.records.Records.remove_dead.Goals as goal
use Rattle.identity_table.proofs.IndexLemmas.{entry_at, some_there}
use Rattle.identity_table.proofs.RecordLemmas.{alive_at-removed}

pub dead-preserved : goal.dead-preserved
unfolding find_identity remove_identity
dead-preserved c =
    let before = c.dead.self in
    let at = some_there (held_at before c.in-Some.place) c.in-Some.ensures.there in
    let dead = rw at.1 at c.in-Some.ensures.dead in
    let removed = rw at.1 at c.take.ensures.removed in
    record {
      indexed = c.take.ensures.indexed;
      alive = ap (alive_at c.args.now) removed
          ∙ alive_at-removed c.args.now (has_blob at.0.blob) (held before) at.0
          (entry_at before c.dead.invariant.indexed c.in-Some.place at.0 at.1) dead
          ∙ c.dead.invariant.alive;
      last = c.take.ensures.last ∙ c.dead.invariant.last;
    }
