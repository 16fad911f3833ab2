use Rattle.std.proofs.Common.{◌≡◌, ◌≤◌, arith, codes, length, refl}
use Rattle.schedule_text.proofs.ShortLines.{bytes_text-short}
use Rattle.wire_table.proofs.written.put_started.Goals as goal

pub put_step-requires : goal.put_step-requires
put_step-requires c =
    let few : length c.copy_from_slice.new.self ≤ 32000 = grind (arith, c.copy_from_slice.ensures.after, c.copy_from_slice.ensures.len, c.if-bytes-ne16.false) in
    record {
      some = tt;
      short = bytes_text-short (codes "started") 7 c.args.job c.copy_from_slice.new.self refl (omega arith) (omega arith) few;
    }
