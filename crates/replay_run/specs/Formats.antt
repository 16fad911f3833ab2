-- The two formats of schedules (ours: docs/PROTOCOL.md, "Schedules"): in format 2 the helper and the user are waited for
-- as long as the settings say, and no longer.
use Rattle.std.specs.Prelude.{ℕ, Bool, true, false, List, [], ◌∷◌, Result, Ok}
use Rattle.agent_model.specs.State.{Settings, no_limits}
use Rattle.schedule_text.specs.declared.fault.LineFault.{LineFault}
use Rattle.schedule_text.specs.declared.step.Step.{Step}
use Rattle.schedule_text.specs.declared.step.Step.TheVariants.{Format2}
use Rattle.schedule_text.specs.Lines.{step_of}

-- the settings of a schedule, by whether it is of format 2, from those that are chosen: format 1 has no limits
abbrev pub settings_by : Bool → Settings → Settings
settings_by true chosen = chosen
settings_by false chosen = record chosen { limits = no_limits }

-- what is read of a line is the step of the line `schedule 2`
abbrev pub names_format : Result Step LineFault → Bool
names_format (Ok Format2) = true
names_format other = false

-- a text of these lines is of format 2: its line 1 says so
abbrev pub is_second : List (List ℕ) → Bool
is_second [] = false
is_second (line ∷ lines) = names_format (step_of line)
