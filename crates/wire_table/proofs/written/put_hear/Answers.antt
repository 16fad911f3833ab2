use Rattle.std.proofs.Common.{◌≡◌, ◌≤◌, ◌<◌, arith, codes, length, refl}
use Rattle.schedule_text.proofs.ShortLines.{bytes_text-short}
use Rattle.wire_table.proofs.written.put_hear.Goals as goal

pub put_step-requires : goal.put_step-requires
put_step-requires c =
    let some : 0 < length c.from_vec-bytes.result = grind (arith, c.from_vec-bytes.ensures, c.is_empty.ensures, c.if-is_empty.false) in
    let few : length c.from_vec-bytes.result ≤ 1000 = grind (arith, c.from_vec-bytes.ensures, c.len.ensures, c.if-len-gt1000.false) in
    record {
      some = some;
      short = bytes_text-short (codes "hear") 4 c.args.port c.from_vec-bytes.result refl (omega arith) (omega arith) (omega (arith, few));
    }
