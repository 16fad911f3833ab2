-- Limits of time in storage (ours).
use Rattle.agent_model.specs.State.{TimeLimits}
use Rattle.under_way.specs.declared.time.TimeLimits.{TimeLimits as Stored}

-- the limits as the abstract agent sees them
abbrev pub limits_of : Stored → TimeLimits
limits_of limits = record { ask = limits.ask; confirmation = limits.confirmation }
