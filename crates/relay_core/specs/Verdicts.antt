-- What the program that asks the user says (ours; OpenSSH's ssh-askpass answers a confirmation likewise).
use Rattle.std.specs.Prelude.{ℕ, ℤ, pos, ◌==◌, ◌&&◌, ◌||◌, Bool, if◌then◌else◌, List, [], ◌∷◌, length, codes}
use Rattle.std.specs.Ordering.{int_eq}
use Rattle.std.specs.Str.{str_eq_ignore_ascii_case}

-- an output up to its first CR or LF
abbrev pub first_line : List ℕ → List ℕ
first_line [] = []
first_line (byte ∷ bytes) = if (byte == 13) || (byte == 10) then [] else byte ∷ first_line bytes

-- the word consents: it is empty, or `yes` in any case
abbrev pub is_consent : List ℕ → Bool
is_consent word = (length word == 0) || str_eq_ignore_ascii_case word (codes "yes")

-- the user consents: the status is 0, and the first line is empty or `yes` in any case
unfoldable pub verdict_of : ℤ → List ℕ → Bool
verdict_of status output = int_eq status (pos 0) && is_consent (first_line output)
