-- The words of the command line (ours): what is chosen for the run of the record (replay_run, specs/Choices.antt).
use Rattle.std.specs.Prelude.{◌≡◌, List, Some, None}
use Rattle.std.specs.declared.string.String.{String}
use Rattle.std.specs.declared.alloc.Global.{Global}
use Rattle.agent_model.specs.State.{Settings}
use Rattle.audit_core.specs.Words.{texts_of}
use Rattle.replay_run.specs.Choices.{settings_in}

-- the words ask for a log with these settings
abbrev pub IsAsked : List (String Global) → Settings → Type 0
IsAsked words settings = settings_in (texts_of words) ≡ Some settings

-- the words are of no form, or a number of theirs is none
abbrev pub IsUsage : List (String Global) → Type 0
IsUsage words = settings_in (texts_of words) ≡ None
