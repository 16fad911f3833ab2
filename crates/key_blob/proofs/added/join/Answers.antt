use Rattle.std.proofs.Common.{length, sym, ap, arith}
use Rattle.std.proofs.lemmas.List.{length-append}
use Rattle.wire_text.specs.Wire.{string}
use Rattle.wire_text.proofs.WireLemmas.{length-string}
use Rattle.key_blob.proofs.BlobLemmas.{rotated}
use Rattle.key_blob.proofs.added.join.Goals as goal

pub rotate_right-requires : goal.rotate_right-requires
rotate_right-requires c =
    let there = c.args.strings.now.items in
    let text = string c.args.content.now in
    omega (arith, c.put_string.new.out.ok.0, ap length c.in_ok-put_string.ensures.ok, length-append there text, length-string c.args.content.now)

pub returns-then-in_front : goal.returns-then-in_front
returns-then-in_front c =
    let there = c.args.strings.now.items in
    let text = string c.args.content.now in
    rw (c.if-in_front.true, c.rotate_right.ensures.items, c.in_ok-put_string.ensures.ok)
    (rotated there text _ _ (omega (arith, c.put_string.new.out.ok.0, ap length c.in_ok-put_string.ensures.ok)) (sym (length-string c.args.content.now)))
