use Rattle.std.proofs.Common.{arith}
use Rattle.agent_model.specs.State.{first_state}
use Rattle.agent_model.proofs.RunLemmas.{first_is_sound, run-fits, run_keeps-sound, step_keeps-sound}
use Rattle.agent_model.proofs.laws.ports_rise_and_are_few.Goals as goal

pub returns-clause-sound : goal.returns-clause-sound
returns-clause-sound c =
    λ settings events. run_keeps-sound (first_state settings) events (first_is_sound settings)

pub returns-clause-step : goal.returns-clause-step
returns-clause-step c = step_keeps-sound

pub returns-clause-fits : goal.returns-clause-fits
returns-clause-fits c =
    λ settings events fit. run-fits (first_state settings) events fit (omega arith)
