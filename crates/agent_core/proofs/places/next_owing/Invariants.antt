use Rattle.std.proofs.Common.{◌≡◌, drop}
use Rattle.agent_core.specs.Slots.{first_above, owing_of, ports_of}
use Rattle.agent_core.proofs.places.next_owing.Given as goal

-- none of those before is
abbrev pub invariant-slots : goal.invariant-slots
invariant-slots l = first_above l.after (owing_of (ports_of (drop l.slot-index l.slots))) ≡ first_above l.after (owing_of (ports_of l.slots))
