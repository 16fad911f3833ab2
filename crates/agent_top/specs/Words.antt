-- The words of the command line (ours: README.md).
use Rattle.std.specs.Prelude.{◌≡◌, true, false, ℕ, List, [], ◌∷◌, Option, Some, None, nat_le, if◌then◌else◌, map, option_and_then, codes}
use Rattle.std.specs.Str.{bytes_eq}
use Rattle.std.specs.String.{string_bytes}
use Rattle.std.specs.declared.string.String.{String}
use Rattle.std.specs.declared.alloc.Global.{Global}
use Rattle.agent_model.specs.State.{Settings, first_state}
use Rattle.ready_loop.specs.Serving.{Setting}
use Rattle.replay_run.specs.Choices.{lived_with, served_with, settings_with}
use Rattle.schedule_text.specs.Numbers.{number_of}
use Rattle.serve_words.specs.Serve.{is_set, is_usage, life_in, limit_in, value_of}

-- the words, as text
abbrev pub texts_of : List (String Global) → List (List ℕ)
texts_of words = map string_bytes words

-- the settings that the words behind `replay` choose: `-t LIFE`, `--confirm-limit SECONDS`, both in this order, or none
abbrev pub choices : List (List ℕ) → Option Settings
choices [] = settings_with None []
choices (word ∷ []) = settings_with None (word ∷ [])
choices (option ∷ life ∷ words) =
    if bytes_eq option (codes "-t") then lived_with life words else settings_with None (option ∷ life ∷ words)

-- where the words are `replay` and such choices: the settings of the schedule's agent
abbrev pub replay_settings : List (List ℕ) → Option Settings
replay_settings [] = None
replay_settings (command ∷ words) = if bytes_eq command (codes "replay") then choices words else None

-- what a drill is asked for: how many rounds, and what they are drawn from
pub record Drilling : Type 0 where
  pub rounds : ℕ
  pub seed : ℕ

-- the number of rounds that a word says: a number as those of a schedule, and at most 100000
abbrev pub rounds_in : List ℕ → Option ℕ
rounds_in text = option_and_then (λ rounds. if nat_le rounds 100000 then Some rounds else None) (number_of text)

-- both numbers, where there are both
abbrev pub drilling : Option ℕ → Option ℕ → Option Drilling
drilling (Some rounds) (Some seed) = Some record { rounds = rounds; seed = seed }
drilling rounds seed = None

-- where the words are `drill N SEED`: both numbers
abbrev pub drill_words : List (List ℕ) → Option Drilling
drill_words (command ∷ rounds ∷ seed ∷ []) =
    if bytes_eq command (codes "drill") then drilling (rounds_in rounds) (number_of seed) else None
drill_words _ = None

-- the words ask for a drill
abbrev pub IsDrill : List (String Global) → Drilling → Type 0
IsDrill words asked = drill_words (texts_of words) ≡ Some asked

-- the words ask for the run of a schedule, with these settings
abbrev pub IsReplay : List (String Global) → Settings → Type 0
IsReplay words settings = replay_settings (texts_of words) ≡ Some settings

-- the settings of an agent that is served, by the words of `serve`
abbrev pub serve_settings : List (List ℕ) → Settings
serve_settings words = served_with (life_in words) (limit_in words)

-- the words are `serve` with its options, and this is what they say: where clients connect, whether the loop ends once
-- a client has come and none is left, the lifetime of identities that come without one, and how long a question to the user
-- may stay open
pub record IsServe (words : List (String Global)) (setting : Setting) : Type 0 where
  pub form : is_usage (texts_of words) ≡ false
  pub path : value_of (codes "path") (texts_of words) ≡ Some setting.path
  pub until_idle : setting.until_idle ≡ is_set (value_of (codes "until-idle") (texts_of words))
  pub state : setting.state ≡ first_state (serve_settings (texts_of words))

-- the words are none of the forms
pub record IsUsage (words : List (String Global)) : Type 0 where
  pub no_replay : replay_settings (texts_of words) ≡ None
  pub no_drill : drill_words (texts_of words) ≡ None
  pub no_serve : is_usage (texts_of words) ≡ true
