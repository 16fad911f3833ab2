use Rattle.std.proofs.Common.{◌≡◌, length, drop, ap, sym, ◌∙◌}
use Rattle.std.proofs.lemmas.Bool.{lt-leb}
use Rattle.pattern_core.proofs.SearchLemmas.{some_end-whole, some_end-too_short, some_end-found, some_end-nowhere}
use Rattle.pattern_core.specs.Letters.{read_text}
use Rattle.pattern_core.specs.Pieces.{fits}
use Rattle.pattern_core.specs.Patterns.{some_end_is_match}
use Rattle.pattern_core.proofs.pattern.some_end_matches.Goals as goal

pub returns-then-text-len : goal.returns-then-text-len
returns-then-text-len c =
    c.begins_with.ensures
    ∙ ap (λ t. fits (read_text c.args.case t) (read_text c.args.case c.pieces.pattern.now)) c.behind.ensures.rest
    ∙ sym (some_end-whole c.args.case c.pieces.text.now c.pieces.pattern.now c.piece_len-len.result
    record { within = c.piece_len-len.ensures.within; plain = c.piece_len-len.ensures.plain; ends = c.piece_len-len.ensures.ends }
    c.if-len-pattern.true c.if-text-len.true)
    ∙ c.pieces.invariant

pub returns-else-text-len : goal.returns-else-text-len
returns-else-text-len c =
    lt-leb c.piece_len-len.result (length c.pieces.text.now) c.if-text-len.false
    ∙ sym (some_end-too_short c.args.case c.pieces.text.now c.pieces.pattern.now c.piece_len-len.result
    record { within = c.piece_len-len.ensures.within; plain = c.piece_len-len.ensures.plain; ends = c.piece_len-len.ensures.ends }
    c.if-len-pattern.true c.if-text-len.false)
    ∙ c.pieces.invariant

pub returns-in_default : goal.returns-in_default
returns-in_default c =
    sym (some_end-nowhere c.args.case c.pieces.text.now c.pieces.pattern.now c.piece_len-len.result
    record { within = c.piece_len-len.ensures.within; plain = c.piece_len-len.ensures.plain; ends = c.piece_len-len.ensures.ends }
    c.if-len-pattern.false c.in_default.ensures)
    ∙ c.pieces.invariant

pub pieces-preserved : goal.pieces-preserved
pieces-preserved c =
    let case = c.args.case in
    let len = c.piece_len-len.result in
    let place = c.in-Some.place in
    let text : c.behind-text.result.now ≡ drop len (drop place c.pieces.text.now) =
    c.behind-text.ensures.rest ∙ ap (drop len) c.behind-found.ensures.rest in
    let pattern : c.behind-pattern.result.now ≡ drop 1 (drop len c.pieces.pattern.now) =
    c.behind-pattern.ensures.rest ∙ ap (drop 1) c.behind-rest.ensures.rest in
    let is = some_end-found case c.pieces.text.now c.pieces.pattern.now len place
    record { within = c.piece_len-len.ensures.within; plain = c.piece_len-len.ensures.plain; ends = c.piece_len-len.ensures.ends }
    c.if-len-pattern.false c.in-Some.ensures in
    ap (λ t. some_end_is_match (read_text case t) (read_text case c.behind-pattern.result.now)) text
    ∙ ap (λ p. some_end_is_match (read_text case (drop len (drop place c.pieces.text.now))) (read_text case p)) pattern
    ∙ sym is ∙ c.pieces.invariant
