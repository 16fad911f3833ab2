use Rattle.std.proofs.Common.{◌∙◌}
use Rattle.world_ports.proofs.StreamLemmas.{WritesFront-next, OnlyWrites-trans}
use Rattle.world_ports.proofs.whole.write_all.Goals as goal

pub pieces-preserved : goal.pieces-preserved
pieces-preserved g c = let before = c.pieces.invariant in let write = c.in_ok-n.ensures in record {
  front = WritesFront-next _ _ _ _ _ _ before.front write.writes;
  kept = write.cause.kept ∙ before.kept;
  only = OnlyWrites-trans _ _ _ before.only write.only;
}
