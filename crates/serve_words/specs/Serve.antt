-- The words of `serve`, by clap's own definitions: what it takes, and what it reads.
use Rattle.std.specs.Prelude.{◌==◌, ◌&&◌, ◌||◌, ℕ, Bool, true, false, not, List, [], ◌∷◌, Option, Some, None, codes, is_some, if◌then◌else◌, option_and_then}
use Rattle.std.specs.Str.{bytes_eq}
use Rattle.clap.specs.Faults.{fault_of}
use Rattle.clap.specs.Simple.{App, matches_of, new_app, with_rule}
use Rattle.clap.specs.Walk.{first_of, is_empty}
use Rattle.serve_words.specs.Rules.{flag_rule, long_rule, short_rule}
use Rattle.world_ports.specs.Life.{life_of}

-- the command line: -a PATH and --helper PROGRAM have to be there, and the other options may be
unfoldable pub serve_app : App
serve_app =
    with_rule (with_rule (with_rule (with_rule (with_rule (with_rule (with_rule (with_rule (with_rule (with_rule (new_app (codes "serve"))
    (short_rule (codes "path") 97 true))
    (long_rule (codes "helper") true))
    (long_rule (codes "helper-data") false))
    (long_rule (codes "relay") false))
    (long_rule (codes "askpass") false))
    (short_rule (codes "lifetime") 116 false))
    (long_rule (codes "confirm-limit") false))
    (flag_rule (codes "until-idle")))
    (flag_rule (codes "record")))
    (flag_rule (codes "record-or-stop"))

-- clap takes the words, of which the first is the command's own
unfoldable pub is_taken : List (List ℕ) → Bool
is_taken words = is_empty (fault_of serve_app words)

-- the value that clap reads for an argument
unfoldable pub value_of : List ℕ → List (List ℕ) → Option (List ℕ)
value_of id words = first_of id (matches_of serve_app words)

-- the first word is `serve`
abbrev pub begins : List (List ℕ) → Bool
begins [] = false
begins (word ∷ words) = bytes_eq word (codes "serve")

-- one of the two is there and not the other
abbrev pub is_one_alone : Option (List ℕ) → Option (List ℕ) → Bool
is_one_alone (Some _) (Some _) = false
is_one_alone None None = false
is_one_alone _ _ = true

-- the word is there and isn't read so
abbrev pub is_unread : (List ℕ → Option ℕ) → Option (List ℕ) → Bool
is_unread reading None = false
is_unread reading (Some word) = not (is_some (reading word))

-- the flag was given
abbrev pub is_set : Option (List ℕ) → Bool
is_set None = false
is_set (Some value) = bytes_eq value (codes "true")

-- the output is to be a record of what happens
abbrev pub is_recorded : List (List ℕ) → Bool
is_recorded words = is_set (value_of (codes "record") words)

-- the agent is to end with the record
abbrev pub ends_with_record : List (List ℕ) → Bool
ends_with_record words = is_set (value_of (codes "record-or-stop") words)

-- the seconds that a word says: read as a lifetime, and 1 at least
abbrev pub seconds_of : List ℕ → Option ℕ
seconds_of word = option_and_then (λ seconds. if seconds == 0 then None else Some seconds) (life_of word)

-- the words are none of the forms
abbrev pub is_usage : List (List ℕ) → Bool
is_usage words = not (begins words && is_taken words
    && is_some (value_of (codes "path") words) && is_some (value_of (codes "helper") words))
    || is_one_alone (value_of (codes "relay") words) (value_of (codes "askpass") words)
    || is_unread life_of (value_of (codes "lifetime") words)
    || is_unread seconds_of (value_of (codes "confirm-limit") words)
    || (ends_with_record words && not (is_recorded words))

-- the lifetime of identities that are added without one, where the words say so: none for 0
abbrev pub life_in : List (List ℕ) → Option ℕ
life_in words = option_and_then seconds_of (value_of (codes "lifetime") words)

-- how long a question to the user may stay open, where the words say so
abbrev pub limit_in : List (List ℕ) → Option ℕ
limit_in words = option_and_then seconds_of (value_of (codes "confirm-limit") words)
