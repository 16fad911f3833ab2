-- Short lines that wait for a moment (ours).
use Rattle.std.specs.Prelude.{List, ℕ, [], ◌∷◌}
use Rattle.schedule_text.specs.declared.step.Step.{Step}
use Rattle.schedule_text.specs.declared.step.Step.TheVariants as steps
use Rattle.record_world.specs.declared.due.Due.{Due}
use Rattle.record_world.specs.declared.due.Due.TheVariants as dues
use Rattle.record_world.specs.Recording.{lines}

-- the step that waits
abbrev pub due_steps : Due → List Step
due_steps dues.Nothing = []
due_steps (dues.Join door) = steps.Join door ∷ []
due_steps (dues.End port) = steps.End port ∷ []
due_steps (dues.Take port count) = steps.Take port count ∷ []
due_steps (dues.Started job ticket) = steps.Started job ticket ∷ []
due_steps (dues.Failed job) = steps.Failed job ∷ []

-- its line
abbrev pub due_text : Due → List ℕ
due_text due = lines (due_steps due)
