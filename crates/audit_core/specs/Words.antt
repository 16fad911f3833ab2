-- The words of the command line (ours): RECORD and DEEDS, and behind them what is chosen for the run (replay_run,
-- specs/Choices.antt).
use Rattle.std.specs.Prelude.{◌≡◌, ℕ, List, [], ◌∷◌, Option, Some, None, map, option_map}
use Rattle.std.specs.String.{string_bytes}
use Rattle.std.specs.declared.string.String.{String}
use Rattle.std.specs.declared.alloc.Global.{Global}
use Rattle.agent_core.specs.Parts.{settings_of}
use Rattle.agent_model.specs.State.{Settings}
use Rattle.replay_run.specs.Choices.{settings_in}
use Rattle.audit_core.specs.declared.words.Words.{Words}

-- the words, as text
abbrev pub texts_of : List (String Global) → List (List ℕ)
texts_of words = map string_bytes words

-- what the program is asked for: the files of the record and of its deeds, and the settings of the record's agent
pub record Asked : Type 0 where
  pub recording : List ℕ
  pub deeds : List ℕ
  pub settings : Settings

-- of two files with these settings
abbrev pub asked_for : List ℕ → List ℕ → Settings → Asked
asked_for recording deeds settings = record { recording = recording; deeds = deeds; settings = settings }

-- what these words ask for, where they are of a form
abbrev pub asked_in : List (List ℕ) → Option Asked
asked_in [] = None
asked_in (recording ∷ []) = None
asked_in (recording ∷ deeds ∷ chosen) = option_map (asked_for recording deeds) (settings_in chosen)

-- the words ask for this
abbrev pub IsAsked : List (String Global) → Asked → Type 0
IsAsked words asked = asked_in (texts_of words) ≡ Some asked

-- the words are of no form, or a number of theirs is none
abbrev pub IsUsage : List (String Global) → Type 0
IsUsage words = asked_in (texts_of words) ≡ None

-- the words of the code
abbrev pub asked_of : Words → Asked
asked_of words = record { recording = words.recording.now; deeds = words.deeds.now; settings = settings_of words.settings }
