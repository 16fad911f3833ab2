use Rattle.std.proofs.Common.{◌≡◌, ◌∷◌, replicate}
use Rattle.rsa_verify.proofs.encoding.encode.Given as goal

-- the octets of 255 so far
abbrev pub invariant-loop-octet : goal.invariant-loop-octet
invariant-loop-octet l = l.message.items ≡ 0 ∷ 1 ∷ replicate l._octet 255
