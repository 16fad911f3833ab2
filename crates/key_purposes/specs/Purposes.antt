-- What signatures may be for, and the words that say so (ours: docs/PROTOCOL.md, "Purposes").
use Rattle.std.specs.Prelude.{◌≡◌, ◌≢◌, ◌≤◌, ℕ, Bool, true, false, List, [], ◌∷◌, ◌++◌, length, take, drop, map, All, nat_lt, Result, Ok, Err, codes, if◌then◌else◌, ⊤}
use Rattle.std.specs.List.{IsDistinct, list_any}
use Rattle.std.specs.Str.{bytes_eq}
use Rattle.wire_core.specs.Readings.{◌>>=◌}
use Rattle.key_purposes.specs.declared.fault.PurposeFault.{PurposeFault}
use Rattle.key_purposes.specs.declared.fault.PurposeFault.TheVariants.{Missing, Many, Long, Unknown, Twice}
use Rattle.key_purposes.specs.declared.purpose.Purpose.{Purpose}
use Rattle.key_purposes.specs.declared.purpose.Purpose.TheVariants.{Login, Namespace, AnyNamespace, Certificate, Other}

-- ---- purposes and their words

-- the word that names a purpose
abbrev pub word_of : Purpose → List ℕ
word_of Login = codes "login"
word_of (Namespace namespace) = codes "sshsig:" ++ namespace
word_of AnyNamespace = codes "sshsig"
word_of Certificate = codes "certificate"
word_of Other = codes "other"

-- both are one purpose
abbrev pub is_same : Purpose → Purpose → Bool
is_same Login Login = true
is_same (Namespace namespace) (Namespace named) = bytes_eq namespace named
is_same AnyNamespace AnyNamespace = true
is_same Certificate Certificate = true
is_same Other Other = true
is_same one _ = false

-- the most purposes, and the most bytes of a word
abbrev pub most : ℕ
most = 64

-- the most bytes of a word
abbrev pub longest : ℕ
longest = 255

-- a namespace isn't empty
abbrev pub IsPurpose : Purpose → Type 0
IsPurpose Login = ⊤
IsPurpose (Namespace namespace) = namespace ≢ []
IsPurpose AnyNamespace = ⊤
IsPurpose Certificate = ⊤
IsPurpose Other = ⊤

-- the words name these purposes, each in its place
pub record ArePurposes (words : List (List ℕ)) (purposes : List Purpose) : Type 0 where
  pub named : words ≡ map word_of purposes
  pub each : All IsPurpose purposes
  pub some : purposes ≢ []
  pub few : length purposes ≤ most
  pub short : All (λ word. length word ≤ longest) words
  pub once : IsDistinct is_same purposes

-- ---- the same word by word: the purposes, or the first fault

-- a namespace, which isn't empty
abbrev pub in_namespace : List ℕ → Result Purpose PurposeFault
in_namespace [] = Err Unknown
in_namespace (byte ∷ namespace) = Ok (Namespace (byte ∷ namespace))

-- the purpose that a word names
unfoldable pub purpose_named : List ℕ → Result Purpose PurposeFault
purpose_named word =
    if bytes_eq word (codes "login") then Ok Login
    else if bytes_eq word (codes "sshsig") then Ok AnyNamespace
    else if bytes_eq word (codes "certificate") then Ok Certificate
    else if bytes_eq word (codes "other") then Ok Other
    else if bytes_eq (take 7 word) (codes "sshsig:") then in_namespace (drop 7 word)
    else Err Unknown

-- the purposes with one more, which isn't there yet
abbrev pub with_purpose : List Purpose → Purpose → Result (List Purpose) PurposeFault
with_purpose held purpose =
    if list_any (λ one. is_same one purpose) held then Err Twice else Ok (held ++ purpose ∷ [])

-- the purposes with that of a word more
unfoldable pub with_word : List Purpose → List ℕ → Result (List Purpose) PurposeFault
with_word held word =
    if nat_lt (length held) 64
    then (if nat_lt 255 (length word) then Err Long else (purpose_named word >>= with_purpose held))
    else Err Many

-- the purposes with those of these words more
abbrev pub with_words : List Purpose → List (List ℕ) → Result (List Purpose) PurposeFault
with_words held [] = Ok held
with_words held (word ∷ words) = with_word held word >>= λ more. with_words more words

-- there is one at least
abbrev pub some_purposes : List Purpose → Result (List Purpose) PurposeFault
some_purposes [] = Err Missing
some_purposes (purpose ∷ purposes) = Ok (purpose ∷ purposes)

-- the purposes that words name, or the first fault from left to right
abbrev pub purposes_in : List (List ℕ) → Result (List Purpose) PurposeFault
purposes_in words = with_words [] words >>= some_purposes
