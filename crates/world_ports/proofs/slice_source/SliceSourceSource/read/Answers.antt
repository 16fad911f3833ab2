use Rattle.std.proofs.Common.{arith, refl, sym, ap, take, drop, ◌∙◌}
use Rattle.std.proofs.lemmas.List.{take_rest}
use Rattle.std.proofs.lemmas.Grind.{common_steps}
use Rattle.world_ports.proofs.MemoryLemmas.{gives-front}
use Rattle.world_ports.proofs.slice_source.SliceSourceSource.read.Goals as goal

pub returns-clause-reads : goal.returns-clause-reads
returns-clause-reads c = rw c.pulled.ensures (rw (sym c.self.view_is)
    (gives-front c.min-n.result c.self.inside.at c.self.inside.bytes.now c.copy_from_slice.new.self (drop c.min-n.result c.args.room.now)
    (c.copy_from_slice.ensures.after ∙ ap (take c.min-n.result) (take_rest c.self.inside.bytes.now c.self.inside.at))
    (grind (arith, common_steps, c.copy_from_slice.ensures))
    (λ none. grind (arith, common_steps, none, c.requires, c.self.invariant)) _ _ refl refl refl refl))
