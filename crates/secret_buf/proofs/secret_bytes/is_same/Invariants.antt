use Rattle.std.proofs.Common.{◌≡◌, ◌↔◌, take}
use Rattle.std.specs.Prelude.{IsTrue}
use Rattle.secret_buf.proofs.secret_bytes.is_same.Given as goal

-- it is true so far exactly where the bytes so far are equal
abbrev pub invariant-loop-i : goal.invariant-loop-i
invariant-loop-i l = IsTrue l.same ↔ (take l.i l.a ≡ take l.i l.b)
