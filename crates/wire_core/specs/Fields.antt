-- The data types of RFC 4251, section 5, at the front of bytes: what a reading gives is the value and
-- the bytes that follow it, or nothing where fewer bytes are left than the value takes.
use Rattle.std.specs.Prelude.{◌≡◌, ℕ, ◌+◌, Bool, List, [], ◌∷◌, length, take, drop, Option, Some, None, nat_lt, if◌then◌else◌}
use Rattle.std.specs.Int.{w64, from_be_bytes}
use Rattle.wire_text.specs.Wire.{boolean_of, announced_len}
use Rattle.wire_core.specs.declared.short.Short.{Short}

-- a boolean
abbrev pub boolean_at : List ℕ → Option (Bool × List ℕ)
boolean_at [] = None
boolean_at (byte ∷ rest) = Some (boolean_of byte, rest)

-- a uint32
unfoldable pub uint32_at : List ℕ → Option (ℕ × List ℕ)
uint32_at bytes = if nat_lt (length bytes) 4 then None else Some (announced_len bytes, drop 4 bytes)

-- a uint64
unfoldable pub uint64_at : List ℕ → Option (ℕ × List ℕ)
uint64_at bytes =
    if nat_lt (length bytes) 8 then None else Some (from_be_bytes w64 bytes, drop 8 bytes)

-- how many bytes a string at the front takes, as far as the bytes that are there tell
unfoldable pub string_len : List ℕ → ℕ
string_len bytes = if nat_lt (length bytes) 4 then 4 else 4 + announced_len bytes

-- a string
unfoldable pub string_at : List ℕ → Option (List ℕ × List ℕ)
string_at bytes =
    if nat_lt (length bytes) (string_len bytes) then None
    else Some (take (announced_len bytes) (drop 4 bytes), drop (announced_len bytes) (drop 4 bytes))

-- so many bytes are wanted, and these are left
pub record IsShortOf (needed : ℕ) (left : List ℕ) (short : Short) : Type 0 where
  pub wanted : short.wanted ≡ needed
  pub had : short.had ≡ length left
