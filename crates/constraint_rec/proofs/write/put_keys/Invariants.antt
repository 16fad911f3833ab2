use Rattle.std.proofs.Common.{◌≡◌, ◌++◌, take}
use Rattle.std.specs.List.{flat_map}
use Rattle.constraint_rec.specs.Hops.{key_text}
use Rattle.constraint_rec.specs.Writing.{spelt_key}
use Rattle.constraint_rec.proofs.write.put_keys.Given as goal

-- the keys so far were appended
abbrev pub invariant-loop-key : goal.invariant-loop-key
invariant-loop-key l = l.out.items ≡ l.fn.out.items ++ flat_map (λ key. key_text (spelt_key key)) (take l.key-index l.keys)
