-- Lifetimes as text (after the time formats of sshd_config(5)): `90`, `1h30m`, `2W`.
use Rattle.std.specs.Prelude.{◌+◌, ◌-◌, ◌*◌, ◌^◌, ◌==◌, ℕ, List, [], ◌∷◌, Option, Some, None, nat_lt, option_and_then, unwrap_or, if◌then◌else◌}
use Rattle.std.specs.Char.{is_ascii_digit, to_ascii_lowercase}

-- the seconds of a unit, by its small letter: s, m, h, d or w
abbrev pub seconds_of_unit : ℕ → Option ℕ
seconds_of_unit letter =
    (if letter == 115 then Some 1 else
    (if letter == 109 then Some 60 else
    (if letter == 104 then Some 3600 else
    (if letter == 100 then Some 86400 else
    (if letter == 119 then Some 604800 else None)))))

-- the seconds of a unit, in either case
abbrev pub unit_of : ℕ → Option ℕ
unit_of letter = seconds_of_unit (to_ascii_lowercase letter)

-- a part: a number with a unit, and the seconds of the parts behind it
abbrev pub part_and_rest : Option ℕ → Option ℕ → Option ℕ → Option ℕ
part_and_rest (Some number) (Some unit) (Some rest) = Some (number * unit + rest)
part_and_rest _ _ _ = None

-- the sum of the parts of a text, of which the first may have begun: its number so far, if any.
-- A number at the end is one of seconds
abbrev pub sum_of : Option ℕ → List ℕ → Option ℕ
sum_of number [] = Some (unwrap_or number 0)
sum_of number (byte ∷ text) =
    if is_ascii_digit byte then sum_of (Some (unwrap_or number 0 * 10 + (byte - 48))) text
    else part_and_rest number (unit_of byte) (sum_of None text)

-- a number of 32 bits
abbrev pub in_range : ℕ → Option ℕ
in_range seconds = if nat_lt seconds (2 ^ 32) then Some seconds else None

-- the seconds that a text says, if it has any part and there are fewer than 2 ^ 32
abbrev pub life_of : List ℕ → Option ℕ
life_of [] = None
life_of (byte ∷ text) = option_and_then in_range (sum_of None (byte ∷ text))
