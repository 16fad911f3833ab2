use Rattle.std.proofs.Common.{◌≡◌, length}
use Rattle.agent_model.specs.Sound.{IsTied}
use Rattle.agent_model.specs.State.{State}
use Rattle.agent_model.specs.Time.{end_late}
use Rattle.agent_core.specs.Slots.{open_of}
use Rattle.agent_core.specs.Parts.{AreSpared, IsSpared, after, state_of}
use Rattle.agent_core.proofs.parts.Parts.end_late.Given as goal

-- what is to be over from here on is what was to be over from the start
abbrev pub invariant-late : goal.invariant-late
invariant-late l =
    let parts = l.self-inside in
    let state : State = state_of parts.wall parts.keys parts.under_way (open_of parts.ports) in
    (after parts.ports.closed (end_late state) ≡ after l.fn.self.closes (end_late l.fn.self.state)) × IsTied state
    × ((was : State) → IsSpared was l.fn.self → AreSpared was parts.under_way parts.ports)

abbrev pub decreases-late : goal.decreases-late
decreases-late l = length l.self-inside.under_way.confirmations
