-- Positive numbers as SSH carries them: the bytes of an mpint (RFC 4251, section 5), the highest first. A public number
-- has the one form of that section; a private one may have zeros in front, as OpenSSH reads it.
use Rattle.std.specs.Prelude.{Bool, ◌≡◌, ◌≢◌, ℕ, ◌<◌, ◌==◌, nat_lt, if◌then◌else◌, List, [], ◌∷◌, ◌++◌, replicate, drop, not, Option, Some, None, Result, Ok, Err}
use Rattle.std.specs.List.{position}
use Rattle.key_wire.specs.declared.fault.KeyFault.{KeyFault}
use Rattle.key_wire.specs.declared.fault.KeyFault.TheVariants.{Unfit}

-- ---- as they are written

-- the highest byte of a positive number isn't 0
abbrev pub IsMagnitude : List ℕ → Type 0
IsMagnitude [] = ⊥
IsMagnitude (high ∷ low) = high ≢ 0

-- the bytes of an mpint: a zero stands in front of a byte whose highest bit would be the sign
abbrev pub signed : List ℕ → List ℕ
signed [] = []
signed (high ∷ low) = if nat_lt high 128 then high ∷ low else 0 ∷ high ∷ low

-- the bytes of an mpint of a private number: zeros may stand in front, and the highest bit of the first byte isn't set
pub record IsSecretMpint (text bytes : List ℕ) : Type 0 where
  pub magnitude : IsMagnitude bytes
  pub zeros : ℕ
  pub parts : text ≡ replicate zeros 0 ++ bytes
  pub positive : (first : ℕ) (rest : List ℕ) → text ≡ first ∷ rest → first < 128

-- ---- as they are read

-- what stands behind a zero in front: a byte with the highest bit
abbrev pub behind_zero : List ℕ → Result (List ℕ) KeyFault
behind_zero [] = Err Unfit
behind_zero (high ∷ low) = if nat_lt high 128 then Err Unfit else Ok (high ∷ low)

-- the bytes of a positive number, none more than it takes
unfoldable pub magnitude : List ℕ → Result (List ℕ) KeyFault
magnitude [] = Err Unfit
magnitude (first ∷ rest) =
    if first == 0 then behind_zero rest
    else if nat_lt first 128 then Ok (first ∷ rest) else Err Unfit

-- the byte isn't zero
abbrev pub isnt_zero : ℕ → Bool
isnt_zero byte = not (byte == 0)

-- the bytes from this place on, where there is one
abbrev pub from_first : Option ℕ → List ℕ → Result (List ℕ) KeyFault
from_first (Some zeros) text = Ok (drop zeros text)
from_first None text = Err Unfit

-- what follows the zeros in front, which are not all
unfoldable pub behind_zeros : List ℕ → Result (List ℕ) KeyFault
behind_zeros text = from_first (position isnt_zero text) text

-- the bytes of a positive number, behind any zeros
unfoldable pub secret_magnitude : List ℕ → Result (List ℕ) KeyFault
secret_magnitude [] = Err Unfit
secret_magnitude (first ∷ rest) =
    if nat_lt first 128 then behind_zeros (first ∷ rest) else Err Unfit
