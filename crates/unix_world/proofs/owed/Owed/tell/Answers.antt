use Rattle.unix_world.proofs.Telling.{told_each}
use Rattle.unix_world.proofs.owed.Owed.tell.Goals as goal

pub returns : goal.returns
returns c =
    rw (c.in_ok-tell_writes.ensures, c.in_ok-tell_reads.ensures, c.deref.ensures.value, c.deref-2.ensures.value)
    (told_each c.args.self.now c.args.out.now.items)
