use Rattle.std.proofs.Common.{◌≡◌, arith, codes, refl}
use Rattle.schedule_text.proofs.ShortLines.{two_text-short}
use Rattle.wire_table.proofs.written.put_two.Goals as goal

pub put_step-requires : goal.put_step-requires
put_step-requires c = record {
  some = tt;
  short = two_text-short (codes "at") 2 c.args.first c.args.second refl (omega arith) (omega arith) (omega arith);
}

pub put_step-requires-then-second-ne0 : goal.put_step-requires-then-second-ne0
put_step-requires-then-second-ne0 c = record {
  some = omega (arith, c.if-second-ne0.true);
  short = two_text-short (codes "take") 4 c.args.first c.args.second refl (omega arith) (omega arith) (omega arith);
}
