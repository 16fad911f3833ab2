use Rattle.std.proofs.Common.{◌≡◌, take}
use Rattle.key_file.specs.Base64.{without_blanks}
use Rattle.key_file.proofs.encoding.unblanked.Given as goal

-- what is kept is what was passed, without its blanks
abbrev pub invariant-loop-byte : goal.invariant-loop-byte
invariant-loop-byte l = l.kept.live ≡ without_blanks (take l.byte-index l.text)
