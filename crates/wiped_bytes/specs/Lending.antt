-- What is lent of bytes that are wiped: all of them, to be written over, and never fewer or more.
use Rattle.std.specs.Prelude.{ℕ, List, ◌++◌, drop, length, take}
use Rattle.std.specs.Borrow.{Lends, MutBor, Fml, Array, u8}
use Rattle.wiped_bytes.specs.contracts.WipedBytes.{the_row}

-- as many bytes as there were, the first of which are these
abbrev pub over : List ℕ → List ℕ → List ℕ
over before bytes = take (length before) (bytes ++ drop (length bytes) before)

-- the bytes end as those that are left behind the result
abbrev pub LendsBytes : MutBor (List ℕ) → MutBor (List ℕ) → Fml
LendsBytes wiped result = Lends the_row (Array u8 0) wiped result (over wiped.now)
