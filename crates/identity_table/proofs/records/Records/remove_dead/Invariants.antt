use Rattle.std.proofs.Common.{◌≡◌}
use Rattle.std.specs.BTreeMap.{btree_map_len}
use Rattle.identity_table.specs.Identities.{alive_at}
use Rattle.identity_table.specs.Indices.{IsIndexed, held}
use Rattle.identity_table.proofs.records.Records.remove_dead.Given as goal

-- what was removed was dead
abbrev pub invariant-dead : goal.invariant-dead
invariant-dead l = record {
  indexed : IsIndexed l.self;
  alive : alive_at l.now (held l.self) ≡ alive_at l.now (held l.fn.self);
  last : l.self.last ≡ l.fn.self.last;
}

abbrev pub decreases-dead : goal.decreases-dead
decreases-dead l = btree_map_len l.self.places
