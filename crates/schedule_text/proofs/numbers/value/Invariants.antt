use Rattle.std.proofs.Common.{◌≡◌, ◌<◌, ◌^◌, drop}
use Rattle.std.specs.Str.{all_ascii_digits}
use Rattle.schedule_text.specs.Numbers.{number_after}
use Rattle.schedule_text.proofs.numbers.value.Given as goal

-- what is left to read decides as the whole does
abbrev pub invariant-digits : goal.invariant-digits
invariant-digits l =
    (all_ascii_digits l.digits ≡ all_ascii_digits (drop l.digit-index l.digits))
    × (number_after 0 l.digits ≡ number_after l.value (drop l.digit-index l.digits))
    × (l.value < 2 ^ 64)
