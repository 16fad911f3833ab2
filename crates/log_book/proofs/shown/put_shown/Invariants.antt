use Rattle.std.proofs.Common.{◌≡◌, ◌++◌, map, take}
use Rattle.log_book.specs.Shown.{shown_byte}
use Rattle.log_book.proofs.shown.put_shown.Given as goal

-- so far the first bytes are appended
abbrev pub invariant-loop-byte : goal.invariant-loop-byte
invariant-loop-byte l = l.out.items ≡ l.fn.out.items ++ map shown_byte (take l.byte-index l.bytes)
