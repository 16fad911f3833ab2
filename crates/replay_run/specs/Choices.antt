-- The words that choose an agent's settings (ours: docs/PROTOCOL.md, "Limits"): how long identities live that come without
-- a lifetime, and how long a question to the user may stay open. The file is read from its end.
use Rattle.std.specs.Prelude.{◌==◌, ℕ, List, [], ◌∷◌, Option, Some, None, codes, if◌then◌else◌, option_and_then, option_map}
use Rattle.std.specs.Str.{bytes_eq}
use Rattle.world_ports.specs.Life.{life_of}
use Rattle.agent_model.specs.State.{Settings, usual_limits}

-- the settings of an agent that is served: with this lifetime of identities that come without one, and with this limit
-- of a question, or as long a one as is usual
abbrev pub served_with : Option ℕ → Option ℕ → Settings
served_with life None = record { life = life; limits = usual_limits }
served_with life (Some seconds) = record { life = life; limits = record usual_limits { confirmation = Some seconds } }

-- a number of seconds that is not 0
abbrev pub some_seconds : ℕ → Option ℕ
some_seconds seconds = if seconds == 0 then None else Some seconds

-- the limit that a word says: read as a lifetime, and not 0
abbrev pub limit_of : List ℕ → Option ℕ
limit_of word = option_and_then some_seconds (life_of word)

-- the limit that words choose: none, or `--confirm-limit SECONDS`
abbrev pub limit_chosen : List (List ℕ) → Option (Option ℕ)
limit_chosen [] = Some None
limit_chosen (name ∷ seconds ∷ []) =
    if bytes_eq name (codes "--confirm-limit") then option_map Some (limit_of seconds) else None
limit_chosen other = None

-- the settings that words choose beside a lifetime
abbrev pub settings_with : Option ℕ → List (List ℕ) → Option Settings
settings_with life words = option_map (served_with life) (limit_chosen words)

-- the settings that words choose beside a word that says the lifetime: 0 stands for none
abbrev pub lived_with : List ℕ → List (List ℕ) → Option Settings
lived_with life words = option_and_then (λ seconds. settings_with (some_seconds seconds) words) (life_of life)

-- the settings that words choose: `LIFE`, `--confirm-limit SECONDS`, both in this order, or none
abbrev pub settings_in : List (List ℕ) → Option Settings
settings_in [] = settings_with None []
settings_in (name ∷ seconds ∷ []) = settings_with None (name ∷ seconds ∷ [])
settings_in (life ∷ words) = lived_with life words
