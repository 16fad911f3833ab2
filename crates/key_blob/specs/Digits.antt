-- The binary digits of the number whose bytes these are, as an mpint carries it (RFC 4251, section 5).
use Rattle.std.specs.Prelude.{ℕ, ◌+◌, ◌-◌, ◌*◌, ◌^◌, ◌<◌, ◌≤◌, List, [], ◌∷◌, length, ◌==◌, if◌then◌else◌}
use Rattle.std.specs.Int.{w8, leading_zeros}

-- how many binary digits the number has whose bytes these are, the highest first
abbrev pub digits_of : List ℕ → ℕ
digits_of [] = 0
digits_of (byte ∷ bytes) = if byte == 0 then digits_of bytes else 8 - leading_zeros w8 byte + 8 * length bytes

-- the number whose bytes these are, the highest first
abbrev pub number_of : List ℕ → ℕ
number_of [] = 0
number_of (byte ∷ bytes) = byte * 2 ^ (8 * length bytes) + number_of bytes

-- the number has so many binary digits, and 0 has none
pub record HasDigits (number digits : ℕ) : Type 0 where
  pub below : number < 2 ^ digits
  pub least : 0 < digits → 2 ^ (digits - 1) ≤ number
