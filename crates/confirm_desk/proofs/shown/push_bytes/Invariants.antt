use Rattle.std.proofs.Common.{◌≡◌, ◌++◌, map, take}
use Rattle.confirm_desk.specs.Prompt.{shown_byte}
use Rattle.confirm_desk.proofs.shown.push_bytes.Given as goal

-- so far the first bytes are appended
abbrev pub invariant-loop-byte : goal.invariant-loop-byte
invariant-loop-byte l = l.text.items ≡ l.fn.text.items ++ map shown_byte (take l.byte-index l.bytes)
