-- What an event does to the numbers of ports, and to the agent (ours).
use Rattle.std.specs.Prelude.{◌≡◌, ℕ, suc, ◌-◌, ◌^◌, ◌<◌}
use Rattle.world_ports.specs.declared.events.Moment.{Moment}
use Rattle.agent_model.specs.State.{State}
use Rattle.agent_model.specs.Step.{step}
use Rattle.agent_model.specs.Events.{Happening, Joined, Heard, Ended, Took, Started, StartFailed, Tick}

-- the number of the last port after an event, by that before it: one more where a port joined
abbrev pub number_after : Happening → ℕ → ℕ
number_after (Joined door) last = suc last
number_after (Heard port piece) last = last
number_after (Ended port) last = last
number_after (Took port count) last = last
number_after (Started job ticket) last = last
number_after (StartFailed job) last = last
number_after Tick last = last

-- where a port joins, a number is left for it
abbrev pub MayJoin : Happening → ℕ → Type 0
MayJoin (Joined door) last = last < 2 ^ 64 - 1
MayJoin (Heard port piece) last = Unit {0}
MayJoin (Ended port) last = Unit {0}
MayJoin (Took port count) last = Unit {0}
MayJoin (Started job ticket) last = Unit {0}
MayJoin (StartFailed job) last = Unit {0}
MayJoin Tick last = Unit {0}

-- the event happened, at some moment
pub record HasHappened (event : Happening) (old new : State) : Type 0 where
  pub moment : Moment
  pub is : new ≡ (step old moment event).state
