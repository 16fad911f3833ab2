-- Numbers and hexadecimal in lines of text (ours): docs/PROTOCOL.md, "Schedules".
use Rattle.std.specs.Prelude.{ℕ, ◌+◌, ◌-◌, ◌*◌, ◌^◌, ◌==◌, ◌&&◌, nat_lt, not, Bool, true, false, if◌then◌else◌, List, [], ◌∷◌, Option, None, Some}
use Rattle.std.specs.Str.{all_ascii_digits}
use Rattle.std.specs.Result.{result_ok}
use Rattle.hex.specs.Hex.{decode_of}

-- the number that decimal digits write, where they follow those of n
abbrev pub number_after : ℕ → List ℕ → ℕ
number_after n [] = n
number_after n (digit ∷ digits) = number_after (n * 10 + (digit - 48)) digits

-- something is written, with no zero in front of another digit
abbrev pub is_shortest : List ℕ → Bool
is_shortest [] = false
is_shortest (digit ∷ []) = true
is_shortest (digit ∷ next ∷ digits) = not (digit == 48)

-- the number below 2 ^ 64 that digits write, or None where there are other bytes or the number is greater
abbrev pub value_of : List ℕ → Option ℕ
value_of text =
    if all_ascii_digits text && nat_lt (number_after 0 text) (2 ^ 64) then Some (number_after 0 text) else None

-- the number that a field writes: decimal digits without leading zeros, below 2 ^ 64
abbrev pub number_of : List ℕ → Option ℕ
number_of field = if is_shortest field then value_of field else None

-- the bytes that a field writes: an even number of hexadecimal digits, two at least, in either case
abbrev pub bytes_of : List ℕ → Option (List ℕ)
bytes_of [] = None
bytes_of (digit ∷ digits) = result_ok (decode_of (digit ∷ digits))
