use Rattle.std.proofs.Common.{◌==◌, ◌&&◌, ◌+◌, ℕ, length, drop, get_or, ap, sym, ◌∙◌, arith}
use Rattle.std.proofs.lemmas.Bool.{and_parts}
use Rattle.std.proofs.lemmas.List.{get_or-drop, length-drop}
use Rattle.pattern_core.proofs.LetterLemmas.{length-read_text}
use Rattle.pattern_core.proofs.PieceLemmas.{fits-narrowed, fits-kept, fits-end, and-true}
use Rattle.pattern_core.specs.Letters.{read_text, read_byte}
use Rattle.pattern_core.specs.Pieces.{fits, has_place}
use Rattle.pattern_core.proofs.piece.fitting_places.Goals as goal
use Rattle.pattern_core.proofs.piece.fitting_places.Goals.{then-wanted-ne-QUESTION, else-wanted-ne-QUESTION}

pub loop-i-preserved : goal.loop-i-preserved
loop-i-preserved c =
    let case = c.args.case in
    let text = c.args.text.now in
    let piece = c.args.piece.now in
    let i = c.loop-i.i in
    elim c.if-wanted-ne-QUESTION.branch [
      | then-wanted-ne-QUESTION w ↦
          let both = λ (k : ℕ). ap (λ p. has_place p k) w.places-is ∙ w.places_of_both-places.ensures k in
          record {
            left = λ k below within.
                let there = w.places_of-there.ensures k below (omega (arith, ap length w.behind-rest.ensures.rest, length-drop i text))
                ∙ ap (λ t. w.byte.result == read_byte case (get_or t k 0)) w.behind-rest.ensures.rest
                ∙ ap (λ b. w.byte.result == read_byte case b) (get_or-drop i text k 0)
                ∙ ap (λ b. b == read_byte case (get_or text (i + k) 0)) w.byte.ensures in
                fits-narrowed case text piece i k (i + 1 + k) _ (has_place c.loop-i.places k) _ (omega arith) (omega arith)
                (omega arith) w.if-wanted-ne-QUESTION.true (c.loop-i.invariant.left k below within) there
                ∙ ap (λ b. b && fits (drop (i + 1 + k) (read_text case text)) (drop (i + 1) (read_text case piece))) (sym (both k));
            within = λ k below there.
                c.loop-i.invariant.within k below (and_parts (has_place c.loop-i.places k) _ (sym (both k) ∙ there)).0;
          }
      | else-wanted-ne-QUESTION w ↦
          let same = λ (k : ℕ). ap (λ p. has_place p k) w.places-is in
          record {
            left = λ k below within.
                fits-kept case text piece i k (i + 1 + k) _ (has_place c.loop-i.places k) (omega arith) (omega arith)
                (omega arith) w.if-wanted-ne-QUESTION.false (c.loop-i.invariant.left k below within)
                ∙ ap (λ b. b && fits (drop (i + 1 + k) (read_text case text)) (drop (i + 1) (read_text case piece))) (sym (same k));
            within = λ k below there. c.loop-i.invariant.within k below (sym (same k) ∙ there);
          }
    ]

pub returns-clause-exact : goal.returns-clause-exact
returns-clause-exact c k below within =
    sym (c.loop-i.invariant.left k below within
    ∙ and-true _ _ (fits-end _ (read_text c.args.case c.args.piece.now) c.loop-i.i
    (omega (arith, length-read_text c.args.case c.args.piece.now))))
