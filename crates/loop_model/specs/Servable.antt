-- What can be served in a state of the agent (ours).
use Rattle.std.specs.Prelude.{◌-◌, ◌^◌, Bool, true, false, List, [], ◌∷◌, nat_lt}
use Rattle.world_ports.specs.declared.events.Job.{Job}
use Rattle.agent_model.specs.State.{State, is_some_bytes, owed_of, wants}
use Rattle.loop_model.specs.declared.thing.Thing.{Thing}
use Rattle.loop_model.specs.declared.thing.Thing.TheVariants.{Accept, Read, Write}

-- it can be served if it is ready: a listener while numbers are left, a connection that is to be read, or one that
-- is owed bytes
abbrev pub is_servable : State → Thing → Bool
is_servable state (Accept door) = nat_lt state.last_port (2 ^ 64 - 1)
is_servable state (Read port) = wants port state
is_servable state (Write port) = is_some_bytes (owed_of port state)

-- some job waits to be started
abbrev pub has_job : List Job → Bool
has_job [] = false
has_job (job ∷ jobs) = true
