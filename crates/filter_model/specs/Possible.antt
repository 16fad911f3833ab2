-- Which answers a call on pairs may have, as a test of its entry (ours): those that `Pairs` promises.
use Rattle.std.specs.Prelude.{ℕ, suc, ◌==◌, ◌&&◌, Bool, true, List, length, Result, Ok, Err, nat_lt}
use Rattle.std.specs.List.{list_all}
use Rattle.world_ports.specs.declared.answers.Accepted.{Accepted}
use Rattle.world_ports.specs.declared.answers.Accepted.TheVariants as accepted
use Rattle.world_ports.specs.declared.answers.Got.{Got}
use Rattle.world_ports.specs.declared.answers.Got.TheVariants as got
use Rattle.world_ports.specs.declared.answers.WorldFault.{WorldFault}
use Rattle.world_ports.specs.declared.answers.Wrote.{Wrote}
use Rattle.world_ports.specs.declared.answers.Wrote.TheVariants as wrote

-- a number of bytes, at least one
abbrev pub is_piece : ℕ → ℕ → Bool
is_piece count most = nat_lt 0 count && nat_lt count (suc most)

-- every element is a byte
abbrev pub are_bytes : List ℕ → Bool
are_bytes bytes = list_all (λ byte. nat_lt byte 256) bytes

-- a pair that joins has the number behind the last
abbrev pub is_numbered : ℕ → Result Accepted WorldFault → Bool
is_numbered last (Ok (accepted.Port number)) = number == suc last
is_numbered last (Ok accepted.NotNow) = true
is_numbered last (Err fault) = true

-- what was read are so many bytes, for which there was room
abbrev pub is_got : ℕ → List ℕ → Result Got WorldFault → Bool
is_got room bytes (Ok (got.Bytes n)) = (n == length bytes) && (is_piece n room && are_bytes bytes)
is_got room bytes (Ok got.End) = true
is_got room bytes (Ok got.NotNow) = true
is_got room bytes (Err fault) = true

-- what was taken is no more than was offered
abbrev pub is_taken : List ℕ → Result Wrote WorldFault → Bool
is_taken offered (Ok (wrote.Took n)) = is_piece n (length offered)
is_taken offered (Ok wrote.NotNow) = true
is_taken offered (Err fault) = true
