use Rattle.std.proofs.Common.{◌≡◌, drop, map}
use Rattle.loop_model.specs.Things.{set_of}
use Rattle.loop_model.specs.declared.thing.Thing.TheVariants.{Accept}
use Rattle.ready_loop.proofs.standings.has_door.Given as goal

-- it isn't before the index
abbrev pub invariant-doors : goal.invariant-doors
invariant-doors l = set_of (map Accept (drop l.other-index l.doors)) (Accept l.door) ≡ set_of (map Accept l.doors) (Accept l.door)
