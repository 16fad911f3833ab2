use Rattle.std.proofs.Common.{◌<◌, length, sym, ◌∙◌, arith}
use Rattle.pattern_core.proofs.LetterLemmas.{length-read_text}
use Rattle.pattern_core.proofs.PieceLemmas.{fits-short, fits-read, fits-end, takes_none, takes_any, takes_same}
use Rattle.pattern_core.specs.Letters.{read_text}
use Rattle.pattern_core.proofs.piece.begins_with.Goals as goal
use Rattle.pattern_core.proofs.piece.begins_with.Goals.{else-wanted-ne-QUESTION-via-then-wanted-ne-QUESTION+else-byte, else-wanted-ne-QUESTION-via-else-wanted-ne-QUESTION}

pub returns-then-text-piece : goal.returns-then-text-piece
returns-then-text-piece c =
    let short : length (read_text c.args.case c.args.text.now) < length (read_text c.args.case c.args.piece.now) =
    omega (arith, length-read_text c.args.case c.args.text.now, length-read_text c.args.case c.args.piece.now) in
    sym (fits-short _ _ short)

pub returns-then-byte : goal.returns-then-byte
returns-then-byte c =
    sym (c.loop-i.invariant
    ∙ fits-read c.args.case c.args.text.now c.args.piece.now c.loop-i.i c.loop-i.i (omega arith) (omega arith)
    ∙ takes_none _ _ _ _ c.if-wanted-ne-QUESTION.true
    (λ e. c.if-byte.true (c.byte.ensures ∙ e ∙ sym c.byte-then-wanted-ne-QUESTION.ensures)))

pub loop-i-preserved : goal.loop-i-preserved
loop-i-preserved c =
    let step = c.loop-i.invariant
    ∙ fits-read c.args.case c.args.text.now c.args.piece.now c.loop-i.i c.loop-i.i (omega arith) (omega arith) in
    elim c.else-wanted-ne-QUESTION.branch [
      | else-wanted-ne-QUESTION-via-then-wanted-ne-QUESTION+else-byte w ↦
          step ∙ takes_same _ _ _ _ (sym w.byte.ensures ∙ w.if-byte.false ∙ w.byte-then-wanted-ne-QUESTION.ensures)
      | else-wanted-ne-QUESTION-via-else-wanted-ne-QUESTION w ↦ step ∙ takes_any _ _ _ _ w.if-wanted-ne-QUESTION.false
    ]

pub returns : goal.returns
returns c =
    sym (c.loop-i.invariant
    ∙ fits-end _ (read_text c.args.case c.args.piece.now) c.loop-i.i (omega (arith, length-read_text c.args.case c.args.piece.now)))
