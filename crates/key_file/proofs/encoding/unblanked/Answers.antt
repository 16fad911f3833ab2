use Rattle.std.proofs.Common.{rules, not, append-nil}
use Rattle.std.proofs.lemmas.List.Elements.{filter_more}
use Rattle.key_file.specs.Base64.{is_blank}
use Rattle.key_file.proofs.encoding.unblanked.Goals as goal
use Rattle.key_file.proofs.encoding.unblanked.Goals.{then-not-is_blank+in_ok-push_slice, else-not-is_blank}

-- one byte more is kept, or none
pub loop-byte-preserved : goal.loop-byte-preserved
loop-byte-preserved c =
    let more =
    filter_more (λ byte. not (is_blank byte)) c.args.text.now c.loop-byte.byte-index 0 c.loop-byte-test.true in
    elim c.if-not-is_blank.branch [
      | then-not-is_blank+in_ok-push_slice w ↦
          rw more
          (search (
            rules,
            w.kept-is,
            w.in_ok-push_slice.ensures.ok,
            c.loop-byte.invariant,
            c.is_blank.ensures,
            w.if-not-is_blank.true,
          ))
      | else-not-is_blank w ↦
          rw more
          (search (
            rules,
            append-nil,
            w.kept-is,
            c.loop-byte.invariant,
            c.is_blank.ensures,
            w.if-not-is_blank.false,
          ))
    ]
