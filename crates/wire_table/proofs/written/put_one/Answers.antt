use Rattle.std.proofs.Common.{◌≡◌, arith, codes, refl}
use Rattle.schedule_text.proofs.ShortLines.{one_text-short}
use Rattle.wire_table.proofs.written.put_one.Goals as goal

pub put_step-requires : goal.put_step-requires
put_step-requires c = record { some = tt; short = one_text-short (codes "end") 3 c.args.number refl (omega arith) (omega arith) }

pub put_step-requires-in-hold : goal.put_step-requires-in-hold
put_step-requires-in-hold c = record { some = tt; short = one_text-short (codes "hold") 4 c.args.number refl (omega arith) (omega arith) }

pub put_step-requires-in-free : goal.put_step-requires-in-free
put_step-requires-in-free c = record { some = tt; short = one_text-short (codes "free") 4 c.args.number refl (omega arith) (omega arith) }

pub put_step-requires-in_default : goal.put_step-requires-in_default
put_step-requires-in_default c = record { some = tt; short = one_text-short (codes "failed") 6 c.args.number refl (omega arith) (omega arith) }
