-- Lengths as they are counted: up to the greatest number that fits.
use Rattle.std.specs.Prelude.{ℕ, ◌^◌, ◌-◌, min}

-- the length, or the greatest number that fits
abbrev pub counted : ℕ → ℕ
counted len = min len (2 ^ 64 - 1)
