use Rattle.std.proofs.Common.{◌∷◌, arith}
use Rattle.signer_keys.proofs.NumberLemmas.{length-put, zero-put}
use Rattle.signer_keys.proofs.numbers.put_behind_zero.Goals as goal

pub returns-clause-ok : goal.returns-clause-ok
returns-clause-ok c =
    zero-put c.args.out.now.items c.put_u32.new.out.items c.put_u8.new.out.items c.extend_from_slice.new.self.items c.args.bytes.now _
    c.in_ok-put_u32.ensures.ok c.in_ok-put_u8.ensures.ok c.in_ok-extend_from_slice.ensures.items (omega (arith, c.requires))

pub returns-clause-sized : goal.returns-clause-sized
returns-clause-sized c =
    omega (arith, c.requires, length-put c.args.out.now.items c.extend_from_slice.new.self.items (0 ∷ c.args.bytes.now) (returns-clause-ok c))
