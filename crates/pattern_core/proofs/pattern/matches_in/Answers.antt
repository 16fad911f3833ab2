use Rattle.std.proofs.Common.{◌≡◌, ◌+◌, ◌&&◌, length, take, drop, ap, sym, ◌∙◌}
use Rattle.std.proofs.lemmas.Bool.{ne_eqb, lt-leb}
use Rattle.pattern_core.proofs.SearchLemmas.{is_match-other, is_match-whole, is_match-parts, piece-too_short}
use Rattle.pattern_core.specs.Letters.{read_text}
use Rattle.pattern_core.specs.Patterns.{some_end_is_match}
use Rattle.pattern_core.specs.Pieces.{fits}
use Rattle.pattern_core.proofs.pattern.matches_in.Goals as goal
use Rattle.pattern_core.proofs.pattern.matches_in.Goals.{then-len-text, else-len-text}

pub returns-then-text-len : goal.returns-then-text-len
returns-then-text-len c =
    c.begins_with.ensures
    ∙ sym (is_match-whole c.args.case c.args.text.now c.args.pattern.now c.piece_len-len.result
    record { within = c.piece_len-len.ensures.within; plain = c.piece_len-len.ensures.plain; ends = c.piece_len-len.ensures.ends }
    c.if-len-pattern.true c.if-text-len.true)

pub returns-else-text-len : goal.returns-else-text-len
returns-else-text-len c =
    ne_eqb (length c.args.text.now) c.piece_len-len.result c.if-text-len.false
    ∙ sym (is_match-other c.args.case c.args.text.now c.args.pattern.now c.piece_len-len.result
    record { within = c.piece_len-len.ensures.within; plain = c.piece_len-len.ensures.plain; ends = c.piece_len-len.ensures.ends }
    c.if-len-pattern.true c.if-text-len.false)

pub returns-then-begins_with : goal.returns-then-begins_with
returns-then-begins_with c =
    let begun : c.if-len-text.value ≡ fits (read_text c.args.case c.args.text.now) (read_text c.args.case (take c.piece_len-len.result c.args.pattern.now)) =
    elim c.if-len-text.branch [
      | then-len-text w ↦ w.value-is ∙ w.begins_with-then-len-text.ensures
      | else-len-text w ↦ w.value-is ∙ lt-leb c.piece_len-len.result (length c.args.text.now) w.if-len-text.false
          ∙ sym (piece-too_short c.args.case c.args.text.now c.args.pattern.now c.piece_len-len.result
          record { within = c.piece_len-len.ensures.within; plain = c.piece_len-len.ensures.plain; ends = c.piece_len-len.ensures.ends } w.if-len-text.false)
    ] in
    c.some_end_matches.ensures
    ∙ ap (λ t. some_end_is_match (read_text c.args.case t) (read_text c.args.case c.behind-then-begins_with.result.now)) c.behind.ensures.rest
    ∙ ap (λ p. some_end_is_match (read_text c.args.case (drop c.piece_len-len.result c.args.text.now)) (read_text c.args.case p))
    c.behind-then-begins_with.ensures.rest
    ∙ sym (is_match-parts c.args.case c.args.text.now c.args.pattern.now c.piece_len-len.result
    record { within = c.piece_len-len.ensures.within; plain = c.piece_len-len.ensures.plain; ends = c.piece_len-len.ensures.ends }
    c.if-len-pattern.false
    ∙ ap (λ b. b && some_end_is_match (read_text c.args.case (drop c.piece_len-len.result c.args.text.now)) (read_text c.args.case (drop (c.piece_len-len.result + 1) c.args.pattern.now))) (sym begun ∙ c.if-begins_with.true))

pub returns-else-begins_with : goal.returns-else-begins_with
returns-else-begins_with c =
    let begun : c.if-len-text.value ≡ fits (read_text c.args.case c.args.text.now) (read_text c.args.case (take c.piece_len-len.result c.args.pattern.now)) =
    elim c.if-len-text.branch [
      | then-len-text w ↦ w.value-is ∙ w.begins_with-then-len-text.ensures
      | else-len-text w ↦ w.value-is ∙ lt-leb c.piece_len-len.result (length c.args.text.now) w.if-len-text.false
          ∙ sym (piece-too_short c.args.case c.args.text.now c.args.pattern.now c.piece_len-len.result
          record { within = c.piece_len-len.ensures.within; plain = c.piece_len-len.ensures.plain; ends = c.piece_len-len.ensures.ends } w.if-len-text.false)
    ] in
    c.if-begins_with.false
    ∙ sym (is_match-parts c.args.case c.args.text.now c.args.pattern.now c.piece_len-len.result
    record { within = c.piece_len-len.ensures.within; plain = c.piece_len-len.ensures.plain; ends = c.piece_len-len.ensures.ends }
    c.if-len-pattern.false
    ∙ ap (λ b. b && some_end_is_match (read_text c.args.case (drop c.piece_len-len.result c.args.text.now)) (read_text c.args.case (drop (c.piece_len-len.result + 1) c.args.pattern.now))) (sym begun ∙ c.if-begins_with.false))
