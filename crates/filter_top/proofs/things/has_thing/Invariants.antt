use Rattle.std.proofs.Common.{◌≡◌, drop}
use Rattle.filter_model.specs.Lines.{has_thing}
use Rattle.filter_top.proofs.things.has_thing.Given as goal

-- it isn't before the index
abbrev pub invariant-others : goal.invariant-others
invariant-others l = has_thing l.thing (drop l.other-index l.things) ≡ has_thing l.thing l.things
