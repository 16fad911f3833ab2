-- What a moment leaves before its event: some ports are closed, some clients are told, and the last number stays.
use Rattle.std.proofs.Common.{◌≡◌, refl}
use Rattle.world_ports.specs.declared.events.Moment.{Moment}
use Rattle.agent_model.specs.Sound.{IsRising}
use Rattle.agent_model.specs.State.{State}
use Rattle.agent_model.specs.Time.{at_moment, taken_in}
use Rattle.agent_model.proofs.RunLemmas.{at_moment-follows, rising_behind}
use Rattle.agent_model.proofs.TimeLemmas.{at_moment-keeps}

-- ---- the clocks

-- what a moment ends leaves the clocks
pub clocks-moment : (moment : Moment) (state : State)
    → (at_moment moment state).moment ≡ (taken_in moment state).moment
clocks-moment moment state =
    at_moment-keeps (λ s. s.moment ≡ (taken_in moment state).moment) moment state (λ s is. is) (λ one s there is. is) refl

-- ---- the ports

pub rising-moment : (moment : Moment) (state : State) → IsRising 0 state.last_port state.ports
    → IsRising 0 (at_moment moment state).last_port (at_moment moment state).ports
rising-moment moment state rising =
    rising_behind state (at_moment moment state) (at_moment-follows moment state) rising
