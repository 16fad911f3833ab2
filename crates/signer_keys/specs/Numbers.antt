-- Numbers as bytes, the highest first: with the zeros in front that an algorithm wants, and as SSH carries them.
use Rattle.std.specs.Prelude.{ℕ, ◌-◌, nat_le, if◌then◌else◌, List, ◌++◌, length, replicate, Result, Ok, Err}
use Rattle.key_wire.specs.declared.fault.KeyFault.{KeyFault}
use Rattle.key_wire.specs.declared.fault.KeyFault.TheVariants.{Unfit}
use Rattle.key_wire.specs.Numbers.{signed}
use Rattle.rsa_octets.specs.Octets.{os2ip, significant}
use Rattle.wire_text.specs.Wire.{string}

-- a number's bytes behind zeros, so many in all
unfoldable pub filled : ℕ → List ℕ → Result (List ℕ) KeyFault
filled len bytes = if nat_le (length bytes) len then Ok (replicate (len - length bytes) 0 ++ bytes) else Err Unfit

-- the number of at most eight bytes
unfoldable pub small : List ℕ → Result ℕ KeyFault
small bytes = if nat_le (length bytes) 8 then Ok (os2ip bytes) else Err Unfit

-- the bytes of an mpint (RFC 4251, section 5) of a number's bytes, in front of which zeros may stand
unfoldable pub mpint : List ℕ → List ℕ
mpint bytes = signed (significant bytes)

-- a signature as SSH carries it: the name of its algorithm and its bytes
unfoldable pub signature_text : List ℕ → List ℕ → List ℕ
signature_text algorithm bytes = string algorithm ++ string bytes
