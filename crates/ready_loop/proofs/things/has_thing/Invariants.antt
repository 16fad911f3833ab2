use Rattle.std.proofs.Common.{◌≡◌}
use Rattle.std.specs.VecDeque.Iter.{deque_iter_rest}
use Rattle.loop_model.specs.Things.{set_of}
use Rattle.ready_loop.proofs.things.has_thing.Given as goal

-- it isn't among those before
abbrev pub invariant-others : goal.invariant-others
invariant-others l =
    ((goal.iterator-others).can_next l.other-iterator × (goal.iterator-others).is_finite l.other-iterator)
    × (set_of (deque_iter_rest l.other-iterator) l.thing ≡ set_of l.things.items l.thing)
